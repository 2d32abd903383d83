-- How many positions the search enters where no budget stops it. Assumes nothing: these are definitions.
use Rattle.std.specs.Prelude.{ℕ, ◌+◌, ◌-◌, List, [], length}
use Rattle.base.specs.Search.{Res, done, branch, deepen, enter, left_of}
use Rattle.base.specs.Tally.{tallied}
use Rattle.cubie.specs.Cube.{apply_moves}
use Rattle.cubie.specs.declared.CubieCube.{CubieCube}
use Rattle.phase2_steps.specs.Rules.{Ans, nothing, Turns, Fars, Coords, at}
use Rattle.phase2_steps.specs.Second.{turns2, fars2, coords2, finish2, rules2}
use Rattle.phase1_steps.specs.First.{turns1, fars1, coords1, under, full_of, rules1}

-- one length of phase 2, counting from n on
abbrev pub tally_run2 : Turns → Fars → Coords → ℕ → ℕ → ℕ → Res (Ans (List ℕ)) ℕ
tally_run2 t f c last d n = enter (tallied (rules2 t f) finish2) d (at c last []) n

-- an end of phase 1 as it is in the search, but that phase 2 counts
unfoldable pub tally_finish1 : Turns → Fars → CubieCube → ℕ → ℕ → List ℕ → ℕ → Res (Ans (List ℕ × List ℕ)) ℕ
tally_finish1 t f cube limit last list n =
    branch (full_of limit (length list)) (done nothing)
    (λ n. under (λ l. (list, l)) (deepen (tally_run2 t f (coords2 (apply_moves cube list)) last) 0 (limit - length list) n)) n

-- one length of phase 1
abbrev pub tally_run1 : Turns → Fars → Turns → Fars → CubieCube → ℕ → Coords → ℕ → ℕ → Res (Ans (List ℕ × List ℕ)) ℕ
tally_run1 t f t2 f2 cube limit c d n =
    enter (tallied (rules1 t f t2 f2 cube limit) (λ x. tally_finish1 t2 f2 cube limit x.last x.list)) d (at c 18 []) n

-- the whole search
unfoldable pub tally_solve : Turns → Fars → Turns → Fars → CubieCube → ℕ → Coords → ℕ → Res (Ans (List ℕ × List ℕ)) ℕ
tally_solve t f t2 f2 cube limit c n = deepen (tally_run1 t f t2 f2 cube limit c) 0 (limit + 1) n

-- "would enter": the positions of both phases that the search over the two blocks enters, from none on to where it ends of itself
unfoldable pub tally_of : CubieCube → ℕ → List ℕ → List ℕ → ℕ
tally_of cube limit moves prunes =
    left_of (tally_solve (turns1 moves) (fars1 prunes) (turns2 moves) (fars2 prunes) cube limit (coords1 cube) 0)
