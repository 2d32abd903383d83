-- The seven coordinates of index.rs both ways, and the domain of each. Assumes nothing: these are definitions.
use Rattle.std.specs.Prelude.{List, ◌++◌, map, ℕ, ◌+◌, eqb, replicate, take, drop}
use Rattle.base.specs.Combo.{combo_number, combo_of}
use Rattle.base.specs.Digits.{digits, orientation_of}
use Rattle.base.specs.Lists.{pick, in_range}
use Rattle.base.specs.Perm.{below, number, perm_of, no_repeat}

-- ---- "Domain to number, with every place of the array in range ... Else 4, 5 or 6": 0 inside the domain

-- "co and eo, nothing more"
abbrev pub co_refusal : List ℕ → ℕ
co_refusal xs = pick (in_range 3 xs) 0 6

abbrev pub eo_refusal : List ℕ → ℕ
eo_refusal xs = pick (in_range 2 xs) 0 6

-- "e_combo, exactly four places below 4"
abbrev pub e_combo_refusal : List ℕ → ℕ
e_combo_refusal xs = pick (in_range 12 xs) (pick (eqb (below 4 xs) 4) 0 6) 5

-- "cp and ep, no repeats"
abbrev pub cp_refusal : List ℕ → ℕ
cp_refusal xs = pick (in_range 8 xs) (pick (no_repeat xs) 0 6) 4

-- the edges have no repeats in the places that a coordinate reads
abbrev pub edges_refusal : (List ℕ → List ℕ) → List ℕ → ℕ
edges_refusal own xs = pick (in_range 12 xs) (pick (no_repeat (own xs)) 0 6) 5

abbrev pub ep_refusal : List ℕ → ℕ
ep_refusal = edges_refusal (λ xs. xs)

-- "ud_ep and e_ep, no repeats in their own places": the eight from 4 on, and the four before them
abbrev pub ud_places : List ℕ → List ℕ
ud_places xs = take 8 (drop 4 xs)

abbrev pub ud_ep_refusal : List ℕ → ℕ
ud_ep_refusal = edges_refusal ud_places

abbrev pub e_places : List ℕ → List ℕ
e_places xs = take 4 xs

abbrev pub e_ep_refusal : List ℕ → ℕ
e_ep_refusal = edges_refusal e_places

-- ---- arrangement to number, inside the domain

-- `co_to_index`, `eo_to_index`: all but the last place, in base 3 and in base 2
abbrev pub co_number : List ℕ → ℕ
co_number xs = digits 3 (take 7 xs)

abbrev pub eo_number : List ℕ → ℕ
eo_number xs = digits 2 (take 11 xs)

-- `e_combo_to_index`
abbrev pub e_combo_number : List ℕ → ℕ
e_combo_number xs = combo_number 12 4 xs

-- `cp_to_index`, `ep_to_index`
abbrev pub cp_number : List ℕ → ℕ
cp_number xs = number xs

abbrev pub ep_number : List ℕ → ℕ
ep_number xs = number xs

-- `ud_ep_to_index`, `e_ep_to_index`: the order inside their own places
abbrev pub ud_ep_number : List ℕ → ℕ
ud_ep_number xs = number (ud_places xs)

abbrev pub e_ep_number : List ℕ → ℕ
e_ep_number xs = number (e_places xs)

-- ---- number to arrangement, below the count: "fill the remaining places exactly as the Rust does"

-- `index_to_co`, `index_to_eo`
abbrev pub co_of : ℕ → List ℕ
co_of n = orientation_of 3 7 n

abbrev pub eo_of : ℕ → List ℕ
eo_of n = orientation_of 2 11 n

-- `index_to_e_combo`: the fake edges 3, 2, 1, 0 from the last place to the first, and 4s
abbrev pub e_combo_of : ℕ → List ℕ
e_combo_of n = combo_of 12 4 n

-- `index_to_cp`, `index_to_ep`
abbrev pub cp_of : ℕ → List ℕ
cp_of n = perm_of 8 n

abbrev pub ep_of : ℕ → List ℕ
ep_of n = perm_of 12 n

-- `index_to_ud_ep`: 4s, on top of which the eight places are a permutation
abbrev pub ud_ep_of : ℕ → List ℕ
ud_ep_of n = replicate 4 4 ++ map (λ x. 4 + x) (perm_of 8 n)

-- `index_to_e_ep`: 0s after the four places
abbrev pub e_ep_of : ℕ → List ℕ
e_ep_of n = perm_of 4 n ++ replicate 8 0
