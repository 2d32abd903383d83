-- A cube is that of its 40 bytes, and two lists of moves are made one after the other. Assumes nothing.
use Prim.Native.Nat.{ℕ}
use mathlib.Core.Path.{◌≡◌, refl, sym, ap, ◌∙◌}
use mathlib.Core.List.{List, [], ◌∷◌, ◌++◌, append_assoc}
use native.Mathlib.Nat.{le_of_eq}
use lib.ListN.{length, take, drop}
use lib.Seq.{take_at, drop_at, drop-drop, take_all}
use Rattle.cubie.specs.Cube.{bytes_of, cube_of, turn, apply_moves}
use Rattle.cubie.specs.declared.CubieCube.{CubieCube}
use Rattle.cubie.proofs.Product.{cube-path}

module _ (c : CubieCube) (p : length c.cp ≡ 8) (q : length c.co ≡ 8) (r : length c.ep ≡ 12) (s : length c.eo ≡ 12) where
  whole : bytes_of c ≡ c.cp ++ (c.co ++ (c.ep ++ c.eo))
  whole = append_assoc (c.cp ++ c.co) c.ep c.eo ∙ append_assoc c.cp c.co (c.ep ++ c.eo)

  from-8 : drop 8 (bytes_of c) ≡ c.co ++ (c.ep ++ c.eo)
  from-8 = ap (drop 8) whole ∙ drop_at c.cp (c.co ++ (c.ep ++ c.eo)) 8 p

  from-16 : drop 16 (bytes_of c) ≡ c.ep ++ c.eo
  from-16 = sym (drop-drop 8 8 (bytes_of c)) ∙ ap (drop 8) from-8 ∙ drop_at c.co (c.ep ++ c.eo) 8 q

  from-28 : drop 28 (bytes_of c) ≡ c.eo
  from-28 = sym (drop-drop 12 16 (bytes_of c)) ∙ ap (drop 12) from-16 ∙ drop_at c.ep c.eo 12 r

  pub cube-of-bytes : cube_of (bytes_of c) ≡ c
  cube-of-bytes =
      cube-path (ap (take 8) whole ∙ take_at c.cp (c.co ++ (c.ep ++ c.eo)) 8 p) (ap (take 8) from-8 ∙ take_at c.co (c.ep ++ c.eo) 8 q)
      (ap (take 12) from-16 ∙ take_at c.ep c.eo 12 r) (ap (take 12) from-28 ∙ take_all 12 c.eo (le_of_eq s))

pub moves-append : (c : CubieCube) (l k : List ℕ) → apply_moves c (l ++ k) ≡ apply_moves (apply_moves c l) k
unfolding apply_moves
moves-append c [] k = refl
moves-append c (m ∷ l) k = moves-append (turn c m) l k
