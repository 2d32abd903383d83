-- `solution::print_solved` meets its contract. Assumes nothing.
use mathlib.Core.Path.{◌≡◌}
use mathlib.Core.List.{List, ◌++◌}
use Prim.Native.Nat.{ℕ, ◌+◌, ◌≤◌}
use native.Mathlib.Omega.{arith}
use lib.ListN.{length, replicate}
use Rattle.lines.proofs.Written.{behind}
use Rattle.solution.specs.Text.{turns_line, count_lines}
use Rattle.solution.proofs.Sizes.{solved-le, solved-length, is-printed}
use Rattle.solution.proofs.print_solved.Goals as goal

pub put_turns-at-requires : goal.put_turns-at-requires
put_turns-at-requires c =
    let a = c.args in
    let one = a.one.now in
    let two = a.two.now in
    let size = solved-le one two a.count c.requires.2 c.requires.3 c.ranges.count.fits in
    (c.requires.0, c.requires.1, omega (arith, size))

pub put_counts-len-requires : goal.put_counts-len-requires
put_counts-len-requires c =
    let a = c.args in
    let one = a.one.now in
    let two = a.two.now in
    let size = solved-le one two a.count c.requires.2 c.requires.3 c.ranges.count.fits in
    (c.requires.2, c.requires.3, omega (arith, size, c.put_turns-at.ensures.value, c.put_turns-at.auto.out))

pub returns : goal.returns
returns c =
    let a = c.args in
    let one = a.one.now in
    let two = a.two.now in
    let size = solved-le one two a.count c.requires.2 c.requires.3 c.ranges.count.fits in
    let d : List ℕ = replicate 256 0 in
    let turns = turns_line one two in
    let counts = count_lines one two a.count in
    let e₁ = c.put_turns-at.ensures in
    let e₂ = c.put_counts-len.ensures in
    let all = solved-length one two a.count in
    let room : 0 + length turns ≤ length d = omega (arith, size) in
    let next : c.put_turns-at.result ≡ 0 + length turns = omega (arith, e₁.value) in
    let len : c.put_counts-len.result ≡ length (turns ++ counts) = omega (arith, e₁.value, e₂.value, all) in
    (is-printed _ (turns ++ counts) _ (behind d _ _ turns counts 0 c.put_turns-at.result room e₁.out_after next e₂.out_after) len, omega (arith, len, all, size))
