-- Entries as bytes and back: lengths, places, parts, and that what was written is read back. Assumes nothing.
use mathlib.Core.Path.{◌≡◌, refl, sym, ap, ap₂, ◌∙◌}
use mathlib.Core.Bool.{Bool, true, false}
use mathlib.Core.List.{List, [], ◌∷◌, ◌++◌}
use Prim.Native.Nat.{ℕ, zero, suc, ◌+◌, ◌*◌, ◌/◌, ◌%◌, ◌≤◌, ◌<◌}
use native.Mathlib.Omega.{arith}
use lib.Dec.{eqb}
use lib.ListN.{length, get_or, take, drop, set, length-set, length-append}
use lib.Seq.{take_at, drop_at}
use borrow.Author.Tests.{eqb-true, eqb-false, eq-eqb, ne_eqb}
use Rattle.base.specs.Lists.{Under}
use Rattle.base.proofs.Steps.{written-more, written_all}
use Rattle.checksum.specs.Sum.{bytes16}
use Rattle.table_file.specs.File.{entries16, two_each, bytes_left, entries_left, file_of}

-- ---- lengths and places

pub bytes-length : (xs : List ℕ) → length (bytes16 xs) ≡ 2 * length xs
unfolding bytes16
bytes-length [] = refl
bytes-length (x ∷ xs) = omega (arith, bytes-length xs)

pub entries-length : (bs : List ℕ) (n : ℕ) → length bs ≡ 2 * n → length (entries16 bs) ≡ n
unfolding entries16
entries-length [] n h = omega arith
entries-length (a ∷ []) n h = absurd (omega arith)
entries-length (a ∷ b ∷ bs) zero h = absurd (omega arith)
entries-length (a ∷ b ∷ bs) (suc n) h = ap suc (entries-length bs n (omega arith))

low-at : (xs : List ℕ) (i : ℕ) → i < length xs → get_or (bytes16 xs) (2 * i) 0 ≡ get_or xs i 0 % 256
unfolding bytes16
low-at [] i h = absurd (omega arith)
low-at (x ∷ xs) zero h = refl
low-at (x ∷ xs) (suc i) h = let e : 2 * suc i ≡ suc (suc (2 * i)) = omega arith in ap (λ (k : ℕ). get_or (bytes16 (x ∷ xs)) k 0) e ∙ low-at xs i (omega arith)

high-at : (xs : List ℕ) (i : ℕ) → i < length xs → get_or (bytes16 xs) (2 * i + 1) 0 ≡ get_or xs i 0 / 256
unfolding bytes16
high-at [] i h = absurd (omega arith)
high-at (x ∷ xs) zero h = refl
high-at (x ∷ xs) (suc i) h =
    let e : 2 * suc i + 1 ≡ suc (suc (2 * i + 1)) = omega arith in ap (λ (k : ℕ). get_or (bytes16 (x ∷ xs)) k 0) e ∙ high-at xs i (omega arith)

entry_at : (bs : List ℕ) (i : ℕ) → 2 * i + 1 < length bs → get_or bs (2 * i) 0 + 256 * get_or bs (2 * i + 1) 0 ≡ get_or (entries16 bs) i 0
unfolding entries16
entry_at [] i h = absurd (omega arith)
entry_at (a ∷ []) i h = absurd (omega arith)
entry_at (a ∷ b ∷ bs) zero h = refl
entry_at (a ∷ b ∷ bs) (suc i) h =
    let e : 2 * suc i ≡ suc (suc (2 * i)) = omega arith in
    let f : 2 * suc i + 1 ≡ suc (suc (2 * i + 1)) = omega arith in
    ap₂ (λ (j k : ℕ). get_or (a ∷ b ∷ bs) j 0 + 256 * get_or (a ∷ b ∷ bs) k 0) e f ∙ entry_at bs i (omega arith)

-- ---- the lengths' test

pub odd-length : (n m : ℕ) → (n % 2 ≡ 0 → ⊥) → false ≡ eqb n (2 * m)
odd-length n m h = sym (ne_eqb n (2 * m) (λ e. h (omega arith)))

pub even-length : (n m : ℕ) → n % 2 ≡ 0 → eqb (n / 2) m ≡ eqb n (2 * m)
even-length n m h = go (eqb (n / 2) m) refl
  where
    go : (b : Bool) → eqb (n / 2) m ≡ b → eqb (n / 2) m ≡ eqb n (2 * m)
    go true e = e ∙ sym (eq-eqb n (2 * m) (omega (arith, eqb-true (n / 2) m e)))
    go false e = e ∙ sym (ne_eqb n (2 * m) (λ f. eqb-false (n / 2) m e (omega (arith, f))))

-- ---- one turn of each loop

module _ (xs out : List ℕ) (i : ℕ) (l : length out ≡ 2 * length xs) (h : i < length xs) (e : take (2 * i) out ≡ take (2 * i) (bytes16 xs)) where
  pub bytes-turn : take (2 * (i + 1)) (set (set out (2 * i) (get_or xs i 0 % 256)) (2 * i + 1) (get_or xs i 0 / 256)) ≡ take (2 * (i + 1)) (bytes16 xs)
  bytes-turn =
      let out₁ = set out (2 * i) (get_or xs i 0 % 256) in
      let first : take (2 * i + 1) out₁ ≡ take (2 * i + 1) (bytes16 xs) =
      written-more out (bytes16 xs) (2 * i) (bytes-length xs ∙ sym l) e (get_or xs i 0 % 256) (omega arith) (sym (low-at xs i h)) in
      let len : length (bytes16 xs) ≡ length out₁ = omega (arith, bytes-length xs, length-set out (2 * i) (get_or xs i 0 % 256)) in
      let k : 2 * (i + 1) ≡ 2 * i + 1 + 1 = omega arith in
      ap (λ (n : ℕ). take n (set out₁ (2 * i + 1) (get_or xs i 0 / 256))) k
      ∙ written-more out₁ (bytes16 xs) (2 * i + 1) len first (get_or xs i 0 / 256) (omega (arith, length-set out (2 * i) (get_or xs i 0 % 256))) (sym (high-at xs i h))
      ∙ ap (λ (n : ℕ). take n (bytes16 xs)) (sym k)

module _ (bs out : List ℕ) (i : ℕ) (l : length bs ≡ 2 * length out) (h : i < length out) (e : take i out ≡ take i (entries16 bs)) where
  pub entries-turn : take (i + 1) (set out i (get_or bs (2 * i) 0 + 256 * get_or bs (2 * i + 1) 0)) ≡ take (i + 1) (entries16 bs)
  entries-turn = written-more out (entries16 bs) i (entries-length bs (length out) l) e _ h (entry_at bs i (omega arith))

-- ---- what a call leaves

module _ (xs bs : List ℕ) where
  pub other-room : two_each xs bs ≡ false → (false ≡ two_each xs bs) × (bs ≡ bytes_left xs bs) × (xs ≡ entries_left bs xs)
  other-room e = rw e (refl, refl, refl)

  module _ (e : two_each xs bs ≡ true) (out : List ℕ) (i : ℕ) where
    pub bytes-all : length xs ≤ i → length out ≡ 2 * length xs → take (2 * i) out ≡ take (2 * i) (bytes16 xs) → (true ≡ two_each xs bs) × (out ≡ bytes_left xs bs)
    bytes-all h l w = let f : out ≡ bytes16 xs = written_all out (bytes16 xs) (2 * i) (bytes-length xs ∙ sym l) w (omega arith) in rw e (refl, f)

    pub entries-all : length xs ≤ i → length out ≡ length xs → take i out ≡ take i (entries16 bs) → (true ≡ two_each xs bs) × (out ≡ entries_left bs xs)
    entries-all h l w =
        let n : length (entries16 bs) ≡ length out = entries-length bs (length xs) (eqb-true _ _ e) ∙ sym l in
        let f : out ≡ entries16 bs = written_all out (entries16 bs) i n w (omega arith) in
        rw e (refl, f)

-- ---- laws

-- what was written as bytes is read back
pub read_back : (xs : List ℕ) → entries16 (bytes16 xs) ≡ xs
unfolding bytes16 entries16
read_back [] = refl
read_back (x ∷ xs) = let e : x % 256 + 256 * (x / 256) ≡ x = omega arith in ap₂ ◌∷◌ e (read_back xs)

-- and what was read, where there were two bytes for each entry, is written as it was
pub write-back : (bs : List ℕ) (n : ℕ) → length bs ≡ 2 * n → Under 256 bs → bytes16 (entries16 bs) ≡ bs
unfolding bytes16 entries16
write-back [] n h u = refl
write-back (a ∷ []) n h u = absurd (omega arith)
write-back (a ∷ b ∷ bs) zero h u = absurd (omega arith)
write-back (a ∷ b ∷ bs) (suc n) h u =
    let e : (a + 256 * b) % 256 ≡ a = omega (arith, u.0) in
    let f : (a + 256 * b) / 256 ≡ b = omega (arith, u.0) in
    ap₂ ◌∷◌ e (ap₂ ◌∷◌ f (write-back bs n (omega arith) u.1.1))

-- entries may be written part by part, and read so
pub bytes-parts : (xs ys : List ℕ) → bytes16 (xs ++ ys) ≡ bytes16 xs ++ bytes16 ys
unfolding bytes16
bytes-parts [] ys = refl
bytes-parts (x ∷ xs) ys = ap (λ (t : List ℕ). x % 256 ∷ x / 256 ∷ t) (bytes-parts xs ys)

pub entries-parts : (bs cs : List ℕ) (n : ℕ) → length bs ≡ 2 * n → entries16 (bs ++ cs) ≡ entries16 bs ++ entries16 cs
unfolding entries16
entries-parts [] cs n h = refl
entries-parts (a ∷ []) cs n h = absurd (omega arith)
entries-parts (a ∷ b ∷ bs) cs zero h = absurd (omega arith)
entries-parts (a ∷ b ∷ bs) cs (suc n) h = ap (λ (t : List ℕ). (a + 256 * b) ∷ t) (entries-parts bs cs n (omega arith))

-- a file says the two blocks that it was written from
pub file-back : (moves prunes : List ℕ) → let n = 2 * length moves in
    (entries16 (take n (file_of moves prunes)) ≡ moves) × (drop n (file_of moves prunes) ≡ prunes) × (length (file_of moves prunes) ≡ n + length prunes)
file-back moves prunes = (
  ap entries16 (take_at (bytes16 moves) prunes (2 * length moves) (bytes-length moves)) ∙ read_back moves,
  drop_at (bytes16 moves) prunes (2 * length moves) (bytes-length moves),
  length-append (bytes16 moves) prunes ∙ ap (λ (n : ℕ). n + length prunes) (bytes-length moves),
)
