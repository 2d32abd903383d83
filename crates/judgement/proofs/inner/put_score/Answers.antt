-- `judgement::inner::put_score` meets its contract. Assumes nothing.
use Rattle.std.proofs.Common.{arith, ◌≡◌, sym, ap, ◌∙◌, ◌++◌, ◌+◌, ◌≤◌, length, length-append, List, ℕ}
use Rattle.refusal.specs.Refusals.{number}
use Rattle.words.specs.Answers.{over}
use Rattle.lines.specs.Lines.{decimal, line, refused_word, moves_word, strokes_word}
use Rattle.lines.proofs.Written.{behind, over-size, line-length}
use Rattle.judgement.specs.Judge.{Short, solved_line, score_text}
use Rattle.judgement.proofs.Written.{decimal-le, refused-le, solved-le}
use Rattle.judgement.proofs.inner.put_score.Goals as goal

pub put_line-requires : goal.put_line-requires
put_line-requires c =
    let e : c.from-in-Err.result ≡ number c.in-Err.r = c.from-in-Err.ensures ∙ c.from.ensures in
    let h = rw (sym e) at (refused-le c.in-Err.r) in
    omega (arith, c.requires.0, h, line-length refused_word (decimal c.from-in-Err.result))

pub returns-in-Err : goal.returns-in-Err
unfolding score_text
returns-in-Err c =
    let e : c.from-in-Err.result ≡ number c.in-Err.r = c.from-in-Err.ensures ∙ c.from.ensures in
    let l : line refused_word c.from-in-Err.result ≡ line refused_word (number c.in-Err.r) = ap (λ (n : ℕ). line refused_word n) e in
    let size : c.put_line.result ≡ length (line refused_word c.from-in-Err.result) = omega (arith, c.put_line.ensures.value) in
    let told : length (line refused_word c.from-in-Err.result) ≡ length (line refused_word (number c.in-Err.r)) = ap length l in
    record {
      value = rw c.in-Err.is (size ∙ told);
      out_after = rw c.in-Err.is (c.put_line.ensures.out_after ∙ ap (λ (t : List ℕ). over c.args.out.now 0 t) l);
    }

pub put_line-a-requires : goal.put_line-a-requires
put_line-a-requires c =
    let k = c.in-Ok.score in
    let short : Short k = rw c.in-Ok.is at c.requires.1 in
    omega (arith, c.requires.0, decimal-le k.moves short.moves, line-length moves_word (decimal k.moves))

pub put_line-b-requires : goal.put_line-b-requires
put_line-b-requires c =
    let k = c.in-Ok.score in
    let d = c.args.out.now in
    let short : Short k = rw c.in-Ok.is at c.requires.1 in
    let m1 = decimal-le k.moves short.moves in
    let l1 = line-length moves_word (decimal k.moves) in
    let one = c.put_line-a.ensures in
    let d1 = over-size d c.put_line-a.new.out 0 (line moves_word k.moves) (omega (arith, c.requires.0, m1, l1)) one.out_after in
    omega (arith, c.requires.0, m1, l1, one.value, d1, decimal-le k.strokes short.strokes, line-length strokes_word (decimal k.strokes))

pub put_solved-requires : goal.put_solved-requires
put_solved-requires c =
    let k = c.in-Ok.score in
    let d = c.args.out.now in
    let short : Short k = rw c.in-Ok.is at c.requires.1 in
    let m1 = decimal-le k.moves short.moves in
    let l1 = line-length moves_word (decimal k.moves) in
    let one = c.put_line-a.ensures in
    let d1 = over-size d c.put_line-a.new.out 0 (line moves_word k.moves) (omega (arith, c.requires.0, m1, l1)) one.out_after in
    let m2 = decimal-le k.strokes short.strokes in
    let l2 = line-length strokes_word (decimal k.strokes) in
    let two = c.put_line-b.ensures in
    let d2 = over-size c.put_line-a.new.out c.put_line-b.new.out c.put_line-a.result (line strokes_word k.strokes) (omega (arith, c.requires.0, m1, l1, one.value, d1, m2, l2)) two.out_after in
    omega (arith, c.requires.0, m1, l1, one.value, d1, m2, l2, two.value, d2, solved-le k.solved)

pub returns-in-Ok : goal.returns-in-Ok
unfolding score_text
returns-in-Ok c =
    let k = c.in-Ok.score in
    let d = c.args.out.now in
    let short : Short k = rw c.in-Ok.is at c.requires.1 in
    let m1 = decimal-le k.moves short.moves in
    let l1 = line-length moves_word (decimal k.moves) in
    let one = c.put_line-a.ensures in
    let d1 = over-size d c.put_line-a.new.out 0 (line moves_word k.moves) (omega (arith, c.requires.0, m1, l1)) one.out_after in
    let m2 = decimal-le k.strokes short.strokes in
    let l2 = line-length strokes_word (decimal k.strokes) in
    let two = c.put_line-b.ensures in
    let first = line moves_word k.moves in
    let second = line strokes_word k.strokes in
    let third = solved_line k.solved in
    let end = c.put_solved.ensures in
    let room : 0 + length first ≤ length d = omega (arith, c.requires.0, m1, l1) in
    let next : c.put_line-a.result + length second ≤ length c.put_line-a.new.out = omega (arith, c.requires.0, m1, l1, one.value, d1, m2, l2) in
    let size : c.put_solved.result ≡ length (first ++ (second ++ third)) = omega (arith, end.value, two.value, one.value, length-append first (second ++ third), length-append second third) in
    record {
      value = rw c.in-Ok.is size;
      out_after = rw c.in-Ok.is (behind d c.put_line-a.new.out _ first (second ++ third) 0 c.put_line-a.result room one.out_after one.value (behind c.put_line-a.new.out c.put_line-b.new.out _ second third c.put_line-a.result c.put_line-b.result next two.out_after two.value end.out_after));
    }
