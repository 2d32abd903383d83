-- One byte more, in 64 bits, and what one turn of a loop over a list leaves to be done. Assumes nothing.
use Rattle.std.proofs.Common.{◌≡◌, ℕ, ◌+◌, ◌*◌, ◌/◌, ◌%◌, ◌^◌, ◌<◌, ◌≤◌, max, List, length, get_or, drop, sym, ap, ◌∙◌, arith, drop_of_length-le}
use lib.Bits.{bit_xor}
use Rattle.base.proofs.Steps.{next}
use Rattle.checksum.specs.Sum.{fnv_step, fnv_from, bytes16, greatest_of}

-- a product with the prime by halves: 2^24 times the prime is 2^24 * 435, and 2^64 more
by-halves : (x : ℕ) → x * 1099511628211
    ≡ x / 16777216 * 435 % 1099511627776 * 16777216 + x % 16777216 * 1099511628211 + (x / 16777216 + x / 16777216 * 435 / 1099511627776) * 18446744073709551616
by-halves x = omega arith

whole_words : (y k : ℕ) → (y + k * 18446744073709551616) % 2 ^ 64 ≡ y % 2 ^ 64
whole_words y k = omega arith

pub step_is : (sum byte : ℕ) → (bit_xor sum byte / 16777216 * 435 % 1099511627776 * 16777216 + bit_xor sum byte % 16777216 * 1099511628211) % 2 ^ 64 ≡ fnv_step sum byte
unfolding fnv_step
step_is sum byte = sym (ap (λ (n : ℕ). n % 2 ^ 64) (by-halves (bit_xor sum byte)) ∙ whole_words _ _)

module _ (s : List ℕ) (i : ℕ) (h : i < length s) where
  pub turn8 : (sum : ℕ) → fnv_from (fnv_step sum (get_or s i 0)) (drop (i + 1) s) ≡ fnv_from sum (drop i s)
  unfolding fnv_from
  turn8 sum = sym (ap (fnv_from sum) (next s i h))

  pub turn16 : (sum : ℕ) → fnv_from (fnv_step (fnv_step sum (get_or s i 0 % 256)) (get_or s i 0 / 256)) (bytes16 (drop (i + 1) s)) ≡ fnv_from sum (bytes16 (drop i s))
  unfolding fnv_from bytes16
  turn16 sum = sym (ap (λ (xs : List ℕ). fnv_from sum (bytes16 xs)) (next s i h))

  pub turn-greatest : (most : ℕ) → max (max most (get_or s i 0)) (greatest_of (drop (i + 1) s)) ≡ max most (greatest_of (drop i s))
  unfolding greatest_of
  turn-greatest most = omega (arith, ap greatest_of (next s i h))

module _ (s : List ℕ) (i : ℕ) (h : length s ≤ i) where
  pub end8 : (sum : ℕ) → fnv_from sum (drop i s) ≡ sum
  unfolding fnv_from
  end8 sum = ap (fnv_from sum) (drop_of_length-le s h)

  pub end16 : (sum : ℕ) → fnv_from sum (bytes16 (drop i s)) ≡ sum
  unfolding fnv_from bytes16
  end16 sum = ap (λ (xs : List ℕ). fnv_from sum (bytes16 xs)) (drop_of_length-le s h)

  pub end-greatest : greatest_of (drop i s) ≡ 0
  unfolding greatest_of
  end-greatest = ap greatest_of (drop_of_length-le s h)
