-- `solution::net` meets its contract. Assumes nothing.
use mathlib.Core.Path.{◌≡◌, sym, ap, ◌∙◌}
use mathlib.Core.Bool.{true, false}
use mathlib.Core.List.{List}
use Prim.Native.Nat.{ℕ}
use native.Mathlib.Omega.{arith}
use lib.ListN.{length, take, replicate}
use lib.Seq.{length-take-le}
use Rattle.stickers.specs.Reader.{all_colors}
use Rattle.lines.specs.Lines.{first_line, index_of}
use Rattle.words.specs.Answers.{over}
use Rattle.solution.specs.Drawing.{drawing, net_text}
use Rattle.solution.specs.Text.{printed_as}
use Rattle.solution.proofs.Cases.{net-long, net-length, net-color, net-drawn}
use Rattle.solution.proofs.Sizes.{is-printed}
use Rattle.solution.proofs.Stickers.{drawn-length}
use Rattle.solution.proofs.net.Goals as goal

pub returns-then-input-gt1024 : goal.returns-then-input-gt1024
returns-then-input-gt1024 c = record { value = c.print_refused.ensures.0 ∙ ap printed_as (sym (net-long c.args.input.now c.if-input-gt1024.true)); len_bound = c.print_refused.ensures.1 }

pub returns-then-end-ne54 : goal.returns-then-end-ne54
returns-then-end-ne54 c =
    let s = c.args.input.now in
    let at : c.find-end.result ≡ index_of 10 s = c.find-end.ensures.value in
    let size : length (take c.find-end.result s) ≡ c.find-end.result = length-take-le c.find-end.result s c.find-end.ensures.within in
    let first : take c.find-end.result s ≡ first_line s = ap (λ (k : ℕ). take k s) at in
    let other : length (first_line s) ≡ 54 → ⊥ = λ e. c.if-end-ne54.true (sym size ∙ ap length first ∙ e) in record { value = c.print_refused-then-end-ne54.ensures.0 ∙ ap printed_as (sym (net-length s c.if-input-gt1024.false other)); len_bound = c.print_refused-then-end-ne54.ensures.1 }

pub slice_bounds-all_colors-end : goal.slice_bounds-all_colors-end
slice_bounds-all_colors-end c = sym (length-take-le c.find-end.result c.args.input.now c.find-end.ensures.within)

pub returns-then-not-all_colors : goal.returns-then-not-all_colors
returns-then-not-all_colors c =
    let s = c.args.input.now in
    let at : c.find-end.result ≡ index_of 10 s = c.find-end.ensures.value in
    let size : length (take c.find-end.result s) ≡ c.find-end.result = length-take-le c.find-end.result s c.find-end.ensures.within in
    let first : take c.find-end.result s ≡ first_line s = ap (λ (k : ℕ). take k s) at in
    let is : length (first_line s) ≡ 54 = sym (ap length first) ∙ size ∙ c.if-end-ne54.false in
    let no : all_colors (first_line s) ≡ false = sym (ap all_colors first) ∙ sym c.all_colors.ensures ∙ c.if-not-all_colors.true in record { value = c.print_refused-then-not-all_colors.ensures.0 ∙ ap printed_as (sym (net-color s c.if-input-gt1024.false is no)); len_bound = c.print_refused-then-not-all_colors.ensures.1 }

pub slice_bounds-draw-end : goal.slice_bounds-draw-end
slice_bounds-draw-end c = sym (length-take-le c.find-end.result c.args.input.now c.find-end.ensures.within)

pub draw-requires : goal.draw-requires
draw-requires c =
    let s = c.args.input.now in
    let at : c.find-end.result ≡ index_of 10 s = c.find-end.ensures.value in
    let size : length (take c.find-end.result s) ≡ c.find-end.result = length-take-le c.find-end.result s c.find-end.ensures.within in
    let first : take c.find-end.result s ≡ first_line s = ap (λ (k : ℕ). take k s) at in
    (size ∙ c.if-end-ne54.false, omega arith)

pub returns : goal.returns
returns c =
    let s = c.args.input.now in
    let at : c.find-end.result ≡ index_of 10 s = c.find-end.ensures.value in
    let size : length (take c.find-end.result s) ≡ c.find-end.result = length-take-le c.find-end.result s c.find-end.ensures.within in
    let first : take c.find-end.result s ≡ first_line s = ap (λ (k : ℕ). take k s) at in
    let is : length (first_line s) ≡ 54 = sym (ap length first) ∙ size ∙ c.if-end-ne54.false in
    let yes : all_colors (first_line s) ≡ true = sym (ap all_colors first) ∙ sym c.all_colors.ensures ∙ c.if-not-all_colors.false in
    let text = net-drawn s c.if-input-gt1024.false is yes in
    let written = c.draw.ensures ∙ ap (λ (l : List ℕ). over (replicate 256 0) 0 (drawing l)) first ∙ ap (over (replicate 256 0) 0) (sym text) in record { value = is-printed _ (net_text s) 159 written (sym (ap length text ∙ drawn-length (first_line s))); len_bound = omega arith }
