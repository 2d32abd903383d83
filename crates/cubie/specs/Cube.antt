-- The cube of cubie.rs: its range, the product of two, the six quarter turns and the 18 moves. Assumes nothing: these are definitions.
use Rattle.std.specs.Prelude.{Bool, ◌&&◌, List, [], ◌∷◌, ◌++◌, ℕ, zero, suc, ◌/◌, ◌%◌, get_or, take, drop}
use Rattle.base.specs.Lists.{pick, in_range, Sized, same_list}
use Rattle.base.specs.Product.{compose, twisted}
use Rattle.cubie.specs.declared.CubieCube.{CubieCube}

-- 4: a corner number above 7; 5: an edge number above 11; 6: a corner twist above 2 or an edge flip above 1; the lowest; 0: in range
unfoldable pub refusal_of : CubieCube → ℕ
refusal_of c = pick (in_range 8 c.cp) (pick (in_range 12 c.ep) (pick (in_range 3 c.co && in_range 2 c.eo) 0 6) 5) 4

-- the same as a statement: "in range if 4, 5 and 6 find no bad number; pieces may still repeat"
pub record InRange (c : CubieCube) : Type 0 where
  pub cp : Sized 8 8 c.cp
  pub co : Sized 8 3 c.co
  pub ep : Sized 12 12 c.ep
  pub eo : Sized 12 2 c.eo

-- a cube as 40 bytes: cp 8, co 8, ep 12, eo 12
abbrev pub bytes_of : CubieCube → List ℕ
bytes_of c = ((c.cp ++ c.co) ++ c.ep) ++ c.eo

-- and a cube from its 40 bytes
abbrev pub cube_of : List ℕ → CubieCube
cube_of s = record { cp = take 8 s; co = take 8 (drop 8 s); ep = take 12 (drop 16 s); eo = take 12 (drop 28 s) }

-- `Mul`
unfoldable pub product : CubieCube → CubieCube → CubieCube
product a b =
    record {
      cp = compose a.cp b.cp;
      co = twisted 3 a.co b.cp b.co;
      ep = compose a.ep b.ep;
      eo = twisted 2 a.eo b.ep b.eo;
    }

-- `SOLVED_CUBIE_CUBE`
unfoldable pub solved_cube : CubieCube
solved_cube =
    record {
      cp = 0 ∷ 1 ∷ 2 ∷ 3 ∷ 4 ∷ 5 ∷ 6 ∷ 7 ∷ [];
      co = 0 ∷ 0 ∷ 0 ∷ 0 ∷ 0 ∷ 0 ∷ 0 ∷ 0 ∷ [];
      ep = 0 ∷ 1 ∷ 2 ∷ 3 ∷ 4 ∷ 5 ∷ 6 ∷ 7 ∷ 8 ∷ 9 ∷ 10 ∷ 11 ∷ [];
      eo = 0 ∷ 0 ∷ 0 ∷ 0 ∷ 0 ∷ 0 ∷ 0 ∷ 0 ∷ 0 ∷ 0 ∷ 0 ∷ 0 ∷ [];
    }

-- the six quarter turns of moves.rs, in the order U D R L F B
unfoldable pub quarter_turns : List CubieCube
quarter_turns =
    record {
      cp = 3 ∷ 0 ∷ 1 ∷ 2 ∷ 4 ∷ 5 ∷ 6 ∷ 7 ∷ [];
      co = 0 ∷ 0 ∷ 0 ∷ 0 ∷ 0 ∷ 0 ∷ 0 ∷ 0 ∷ [];
      ep = 0 ∷ 1 ∷ 2 ∷ 3 ∷ 7 ∷ 4 ∷ 5 ∷ 6 ∷ 8 ∷ 9 ∷ 10 ∷ 11 ∷ [];
      eo = 0 ∷ 0 ∷ 0 ∷ 0 ∷ 0 ∷ 0 ∷ 0 ∷ 0 ∷ 0 ∷ 0 ∷ 0 ∷ 0 ∷ [];
    }
    ∷ record {
      cp = 0 ∷ 1 ∷ 2 ∷ 3 ∷ 7 ∷ 4 ∷ 5 ∷ 6 ∷ [];
      co = 0 ∷ 0 ∷ 0 ∷ 0 ∷ 0 ∷ 0 ∷ 0 ∷ 0 ∷ [];
      ep = 0 ∷ 1 ∷ 2 ∷ 3 ∷ 4 ∷ 5 ∷ 6 ∷ 7 ∷ 11 ∷ 8 ∷ 9 ∷ 10 ∷ [];
      eo = 0 ∷ 0 ∷ 0 ∷ 0 ∷ 0 ∷ 0 ∷ 0 ∷ 0 ∷ 0 ∷ 0 ∷ 0 ∷ 0 ∷ [];
    }
    ∷ record {
      cp = 0 ∷ 2 ∷ 5 ∷ 3 ∷ 4 ∷ 6 ∷ 1 ∷ 7 ∷ [];
      co = 0 ∷ 1 ∷ 2 ∷ 0 ∷ 0 ∷ 1 ∷ 2 ∷ 0 ∷ [];
      ep = 0 ∷ 5 ∷ 9 ∷ 3 ∷ 4 ∷ 2 ∷ 6 ∷ 7 ∷ 8 ∷ 1 ∷ 10 ∷ 11 ∷ [];
      eo = 0 ∷ 0 ∷ 0 ∷ 0 ∷ 0 ∷ 0 ∷ 0 ∷ 0 ∷ 0 ∷ 0 ∷ 0 ∷ 0 ∷ [];
    }
    ∷ record {
      cp = 7 ∷ 1 ∷ 2 ∷ 0 ∷ 3 ∷ 5 ∷ 6 ∷ 4 ∷ [];
      co = 2 ∷ 0 ∷ 0 ∷ 1 ∷ 2 ∷ 0 ∷ 0 ∷ 1 ∷ [];
      ep = 11 ∷ 1 ∷ 2 ∷ 7 ∷ 4 ∷ 5 ∷ 6 ∷ 0 ∷ 8 ∷ 9 ∷ 10 ∷ 3 ∷ [];
      eo = 0 ∷ 0 ∷ 0 ∷ 0 ∷ 0 ∷ 0 ∷ 0 ∷ 0 ∷ 0 ∷ 0 ∷ 0 ∷ 0 ∷ [];
    }
    ∷ record {
      cp = 0 ∷ 1 ∷ 3 ∷ 4 ∷ 5 ∷ 2 ∷ 6 ∷ 7 ∷ [];
      co = 0 ∷ 0 ∷ 1 ∷ 2 ∷ 1 ∷ 2 ∷ 0 ∷ 0 ∷ [];
      ep = 0 ∷ 1 ∷ 6 ∷ 8 ∷ 4 ∷ 5 ∷ 3 ∷ 7 ∷ 2 ∷ 9 ∷ 10 ∷ 11 ∷ [];
      eo = 0 ∷ 0 ∷ 1 ∷ 1 ∷ 0 ∷ 0 ∷ 1 ∷ 0 ∷ 1 ∷ 0 ∷ 0 ∷ 0 ∷ [];
    }
    ∷ record {
      cp = 1 ∷ 6 ∷ 2 ∷ 3 ∷ 4 ∷ 5 ∷ 7 ∷ 0 ∷ [];
      co = 1 ∷ 2 ∷ 0 ∷ 0 ∷ 0 ∷ 0 ∷ 1 ∷ 2 ∷ [];
      ep = 4 ∷ 10 ∷ 2 ∷ 3 ∷ 1 ∷ 5 ∷ 6 ∷ 7 ∷ 8 ∷ 9 ∷ 0 ∷ 11 ∷ [];
      eo = 1 ∷ 1 ∷ 0 ∷ 0 ∷ 1 ∷ 0 ∷ 0 ∷ 0 ∷ 0 ∷ 0 ∷ 1 ∷ 0 ∷ [];
    }
    ∷ []

-- t, t t or t t t
unfoldable pub power : ℕ → CubieCube → CubieCube
power zero t = t
power (suc n) t = product (power n t) t

-- the 18 moves: a quarter turn, its square or its cube
unfoldable pub move_of : ℕ → CubieCube
move_of m = power (m % 3) (get_or quarter_turns (m / 3) solved_cube)

-- `apply_move`
abbrev pub turn : CubieCube → ℕ → CubieCube
turn c m = product c (move_of m)

-- `apply_moves`
unfoldable pub apply_moves : CubieCube → List ℕ → CubieCube
apply_moves c [] = c
apply_moves c (m ∷ ms) = apply_moves (turn c m) ms

-- the same pieces at the same places, equally turned
unfoldable pub same_cube : CubieCube → CubieCube → Bool
same_cube a b = same_list a.cp b.cp && (same_list a.co b.co && (same_list a.ep b.ep && same_list a.eo b.eo))

-- each piece at its place, none turned
abbrev pub is_home : CubieCube → Bool
is_home c = same_cube c solved_cube
