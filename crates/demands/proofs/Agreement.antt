-- The search over tables that tell the truth, with its cut and its budget, agrees with the plain search, lists and all, unless it is spent:
-- one law for both phases, and phase 2 as what happens at an end of phase 1. Assumes nothing.
use Prim.Native.Nat.{ℕ, zero, suc, ◌+◌, ◌-◌, ◌<◌}
use mathlib.Core.Path.{◌≡◌, refl, sym, ap, subst, subst⁻¹, ◌∙◌}
use mathlib.Core.Bool.{Bool, true, false}
use mathlib.Core.List.{List, [], ◌∷◌, ◌++◌}
use lib.ListN.{length}
use native.Mathlib.Omega.{arith}
use Rattle.base.specs.Search.{Res, done, deepen, enter, plain}
use Rattle.base.specs.Simulation.{Agree, open_both, done_both, lost, Steps, step, NoEnd, Simulates}
use Rattle.base.proofs.Product.{range-under}
use Rattle.base.proofs.Simulation.{deepen-agree, branch-agree, enter-agree}
use Rattle.cubie.specs.Cube.{turn, apply_moves}
use Rattle.cubie.specs.declared.CubieCube.{CubieCube}
use Rattle.moves.specs.Moves.{is_available}
use Rattle.phase2_steps.specs.Rules.{Ans, solved, nothing, spent, refused, Shape, phase1, phase2, Turns, Fars, Coords, At, at, below_of, ends_of, cut_of, go_of, moved, next_of, pay_of, rules}
use Rattle.phase2_steps.specs.Second.{coords2, finish2, run2}
use Rattle.phase1_steps.specs.First.{coords1, under, full_of, finish1, table_solve}
use Rattle.search.proofs.Cubes.{moves-append}
use Rattle.demands.specs.Plain.{Position, from, is_end1, is_end2, plain_of, plain2, plain_finish, plain_search}

-- the search ended for want of budget
abbrev pub Lost : {L : Type 0} → Ans L → Type 0
Lost (solved l) = ⊥
Lost nothing = ⊥
Lost spent = Unit {0}
Lost refused = ⊥

-- no d moves of the phase lead from y to an end
unfoldable pub NoPath : Shape → (CubieCube → Bool) → ℕ → CubieCube → Type 0
NoPath sh is_end zero y = is_end y ≡ false
NoPath sh is_end (suc d) y = (j : ℕ) → j < sh.w → NoPath sh is_end d (turn y (sh.name j))

-- What makes the tables of a phase true enough, for the cubes of a domain: they follow its coordinates, and a position that is left has no end
-- near enough
pub record Tells (sh : Shape) (t : Turns) (f : Fars) (coords : CubieCube → Coords) (is_end : CubieCube → Bool) (Dom : CubieCube → Type 0) : Type 0 where
  pub ends : (y : CubieCube) → ends_of (coords y) ≡ is_end y
  pub keeps : (y : CubieCube) → Dom y → (j : ℕ) → j < sh.w → Dom (turn y (sh.name j))
  pub below : (y : CubieCube) → Dom y → below_of sh (coords y) ≡ true
  pub steps : (y : CubieCube) → Dom y → (j : ℕ) → j < sh.w → go_of sh t (coords y) j ≡ coords (turn y (sh.name j))
  pub cuts : (y : CubieCube) → Dom y → (d : ℕ) → cut_of sh f (coords y) d ≡ true → NoPath sh is_end d y

-- the two positions are of one cube, after the same moves from y₀
record Same (coords : CubieCube → Coords) (Dom : CubieCube → Type 0) (y₀ : CubieCube) (x : At) (y : Position) : Type 0 where
  inside : Dom y.cube
  place : x.at ≡ coords y.cube
  last : x.last ≡ y.last
  list : x.list ≡ y.list
  made : y.cube ≡ apply_moves y₀ y.list

pub move-more : (y : CubieCube) (l : List ℕ) (m : ℕ) → turn (apply_moves y l) m ≡ apply_moves y (l ++ (m ∷ []))
unfolding apply_moves
move-more y l m = sym (moves-append y l (m ∷ []))

no_end : {L : Type 0} (sh : Shape) (is_end : CubieCube → Bool) (finish : Position → Unit {0} → Res (Ans L) (Unit {0})) (d : ℕ) (y : Position) → NoPath sh is_end d y.cube → NoEnd (plain_of sh is_end finish) (λ j. j < sh.w) d y
unfolding NoPath NoEnd
no_end sh is_end finish zero y h = h
no_end sh is_end finish (suc d) y h = λ j l a. no_end sh is_end finish d _ (h j l)

pays : {L : Type 0} (s : ℕ) (u : Unit {0}) → Agree Lost (pay_of {L = L} s) (Res.still u)
unfolding pay_of
pays zero u = lost tt
pays (suc s) u = open_both

-- both phases, whatever happens at an end
module _ {L : Type 0} {sh : Shape} {t : Turns} {f : Fars} {coords : CubieCube → Coords} {is_end : CubieCube → Bool} {Dom : CubieCube → Type 0} (tells : Tells sh t f coords is_end Dom) (y₀ : CubieCube) (finish : At → ℕ → Res (Ans L) ℕ) (finish' : Position → Unit {0} → Res (Ans L) (Unit {0})) (ends-agree : (x : At) (y : Position) → Same coords Dom y₀ x y → is_end y.cube ≡ true → (s : ℕ) (u : Unit {0}) → Agree Lost (finish x s) (finish' y u)) where
  next-steps : (x : At) (y : Position) → Same coords Dom y₀ x y → (j : ℕ) → j < sh.w → Steps Lost (Same coords Dom y₀) (next_of {L = L} (below_of sh (go_of sh t x.at j)) (moved (go_of sh t x.at j) (sh.name j) x.list)) ((plain_of sh is_end finish').go y j)
  unfolding next_of
  next-steps x y e j l =
      let g = ap (λ (c : Coords). go_of sh t c j) e.place ∙ tells.steps y.cube e.inside j l in
      let k = tells.keeps y.cube e.inside j l in
      let to = moved (go_of sh t x.at j) (sh.name j) x.list in
      subst⁻¹ (λ (b : Bool). Steps Lost (Same coords Dom y₀) (next_of {L = L} b to) ((plain_of sh is_end finish').go y j)) (ap (below_of sh) g ∙ tells.below _ k)
      (step
      (record {
        inside = k;
        place = g;
        last = refl;
        list = ap (λ (k : List ℕ). k ++ (sh.name j ∷ [])) e.list;
        made = ap (λ (z : CubieCube). turn z (sh.name j)) e.made ∙ move-more y₀ y.list (sh.name j);
      }))

  simulates : Simulates (rules sh t f finish) (plain_of sh is_end finish') Lost (λ j. j < sh.w) (Same coords Dom y₀)
  unfolding rules
  simulates =
      record {
        same_moves = refl;
        moves_ok = range-under 0 sh.w sh.w (omega arith);
        pays = pays;
        same_avail = λ x y e j l. ap (λ (k : ℕ). is_available k (sh.name j)) e.last;
        steps = next-steps;
        same_ends = λ x y e. ap ends_of e.place ∙ tells.ends y.cube;
        finishes = ends-agree;
        cuts = λ x y e d q. no_end sh is_end finish' d y (tells.cuts y.cube e.inside d (ap (λ (c : Coords). cut_of sh f c d) (sym e.place) ∙ q));
      }

  phase-agrees : (d : ℕ) (x : At) (y : Position) → Same coords Dom y₀ x y → (s : ℕ) (u : Unit {0}) → Agree Lost (enter (rules sh t f finish) d x s) (enter (plain (plain_of sh is_end finish')) d y u)
  phase-agrees = enter-agree simulates

under-agree : {L K S T : Type 0} (g : L → K) {p : Res (Ans L) S} {q : Res (Ans L) T} → Agree Lost p q → Agree Lost (under g p) (under g q)
unfolding under
under-agree g open_both = open_both
under-agree g (done_both {a = solved l}) = done_both
under-agree g (done_both {a = nothing}) = done_both
under-agree g (done_both {a = spent}) = done_both
under-agree g (done_both {a = refused}) = done_both
under-agree g (lost {a = solved l} h) = absurd h
under-agree g (lost {a = nothing} h) = absurd h
under-agree g (lost {a = spent} h) = lost h
under-agree g (lost {a = refused} h) = absurd h

module _ (t : Turns) (f : Fars) (t2 : Turns) (f2 : Fars) (limit : ℕ) {Dom1 Dom2 : CubieCube → Type 0} (tells1 : Tells phase1 t f coords1 is_end1 Dom1) (tells2 : Tells phase2 t2 f2 coords2 is_end2 Dom2) (enters : (y : CubieCube) → Dom1 y → is_end1 y ≡ true → Dom2 y) where
  -- one length of phase 2, from any cube of its domain
  run-agrees : (y : CubieCube) → Dom2 y → (last d s : ℕ) (u : Unit {0}) → Agree Lost (run2 t2 f2 (coords2 y) last d s) (enter (plain plain2) d (from y last) u)
  unfolding finish2
  run-agrees y k last d s u =
      phase-agrees tells2 y finish2 (λ y. done (solved y.list)) solved-agree d (at (coords2 y) last []) (from y last)
      (record { inside = k; place = refl; last = refl; list = refl; made = unfold apply_moves in refl }) s u
    where
      solved-agree : (x : At) (z : Position) → Same coords2 Dom2 y x z → is_end2 z.cube ≡ true → (s : ℕ) (u : Unit {0}) → Agree Lost (finish2 x s) (done (solved z.list) u)
      solved-agree x z e q s u = subst (λ (l : List ℕ). Agree Lost (done (solved x.list) s) (done (solved l) u)) e.list done_both

  module _ (cube : CubieCube) where
    finish-agrees : (x : At) (y : Position) → Same coords1 Dom1 cube x y → is_end1 y.cube ≡ true → (s : ℕ) (u : Unit {0}) → Agree Lost (finish1 t2 f2 cube limit x.last x.list s) (plain_finish limit y u)
    unfolding finish1 plain_finish
    finish-agrees x y e q s u = subst⁻¹ (λ (l : List ℕ). Agree Lost (finish1 t2 f2 cube limit x.last l s) (plain_finish limit y u)) e.list (subst⁻¹ (λ (k : ℕ). Agree Lost (finish1 t2 f2 cube limit k y.list s) (plain_finish limit y u)) e.last same)
      where
        run : (d s : ℕ) (u : Unit {0}) → Agree Lost (run2 t2 f2 (coords2 (apply_moves cube y.list)) y.last d s) (enter (plain plain2) d (from y.cube y.last) u)
        run d s u =
            subst (λ (z : CubieCube). Agree Lost (run2 t2 f2 (coords2 z) y.last d s) (enter (plain plain2) d (from y.cube y.last) u)) e.made
            (run-agrees y.cube (enters y.cube e.inside q) y.last d s u)

        same : Agree Lost (finish1 t2 f2 cube limit y.last y.list s) (plain_finish limit y u)
        same =
            branch-agree (full_of limit (length y.list)) (done nothing) (λ s. under (λ l. (y.list, l)) (deepen (run2 t2 f2 (coords2 (apply_moves cube y.list)) y.last) 0 (limit - length y.list) s)) (done nothing)
            (λ u. under (λ l. (y.list, l)) (deepen (λ d v. enter (plain plain2) d (from y.cube y.last) v) 0 (limit - length y.list) u)) s u
            (λ b. done_both)
            (λ b. under-agree (λ l. (y.list, l)) (deepen-agree run 0 (limit - length y.list) s u))

    -- unless it is spent, the search with tables answers as the plain one does, lists and all
    pub solve-agrees : Dom1 cube → (budget : ℕ) → Agree Lost (table_solve t f t2 f2 cube limit (coords1 cube) budget) (plain_search limit cube)
    unfolding table_solve plain_search
    solve-agrees k budget =
        deepen-agree
        (λ d s u. phase-agrees tells1 cube (λ x. finish1 t2 f2 cube limit x.last x.list) (plain_finish limit) finish-agrees d (at (coords1 cube) 18 []) (from cube 18)
        (record { inside = k; place = refl; last = refl; list = refl; made = unfold apply_moves in refl }) s u)
        0 (limit + 1) budget tt
