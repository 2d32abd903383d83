-- Which text is printed, by cases. Assumes nothing.
use Rattle.std.proofs.Common.{arith, ◌≡◌, refl, true, false, List, ℕ, ◌+◌, ◌≤◌, ◌<◌, eqb, length, length-drop, Some, None, Result, Ok, Err, Option, sym, ap, ◌∙◌}
use borrow.Author.Tests.{eq-eqb, ne_eqb, le-leb, lt-leb}
use Rattle.cubie.specs.declared.CubieCube.{CubieCube}
use Rattle.refusal.specs.declared.Refusal.{Refusal}
use Rattle.refusal.specs.Refusals.{number}
use Rattle.refusal.proofs.Laws.{passes, told}
use Rattle.stickers.specs.Reader.{all_colors, cube_read, strict_refusal, read_strict}
use Rattle.stickers.proofs.Refusals.{strict-le}
use Rattle.lines.specs.Lines.{index_of, first_line, after_line, line, refused_word}
use Rattle.search.specs.Solve.{solve_of}
use Rattle.solution.specs.Drawing.{drawing, drawn_text, net_text}
use Rattle.solution.specs.Request.{amount_of, bad_budget_line, bad_input_line, up_to, budget_text, limit_text, request_text, solution_text}
use Rattle.solution.specs.Text.{answer_text}

-- the number of what the strict reader refuses
told-strict : (t : List ℕ) (r : Refusal) → read_strict t ≡ Err r → (strict_refusal t ≡ 0 → ⊥) × (strict_refusal t ≡ number r)
told-strict t r e = (λ z. go (sym (passes (strict_refusal t) (cube_read t) z) ∙ e), sym (told (strict_refusal t) r (cube_read t) (omega (arith, strict-le t)) e))
  where
    go : ◌≡◌ {A = Result CubieCube Refusal} (Ok (cube_read t)) (Err r) → ⊥
    go q = cc

-- ---- the turns

-- a number above the bound, and no number, get the other text
up-to-bad : (most : ℕ) (o : Option ℕ) (text : ℕ → List ℕ) (otherwise : List ℕ) → ((n : ℕ) → o ≡ Some n → most < n) → up_to most o text otherwise ≡ otherwise
up-to-bad most (Some n) text otherwise h = rw (lt-leb n most (h n refl)) refl
up-to-bad most None text otherwise h = refl

module _ (cube : CubieCube) (limit : ℕ) (t moves prunes : List ℕ) where
  pub budget-none : amount_of 1000000000 (first_line t) ≡ None → budget_text cube limit t moves prunes ≡ bad_budget_line
  unfolding budget_text
  budget-none e = rw e refl

  -- no number, or one above 32 bits
  pub budget-bad : ((n : ℕ) → amount_of 1000000000 (first_line t) ≡ Some n → 4294967295 < n) → budget_text cube limit t moves prunes ≡ bad_budget_line
  unfolding budget_text
  budget-bad h = up-to-bad 4294967295 (amount_of 1000000000 (first_line t)) _ bad_budget_line h

  module _ (n : ℕ) (e : amount_of 1000000000 (first_line t) ≡ Some n) where
    pub budget-above : 4294967295 < n → budget_text cube limit t moves prunes ≡ bad_budget_line
    unfolding budget_text
    budget-above h = rw (e, lt-leb n 4294967295 h) refl

    pub budget-more : n ≤ 4294967295 → index_of 10 t + 1 < length t → budget_text cube limit t moves prunes ≡ bad_input_line
    unfolding budget_text
    budget-more h k =
        let more : length (after_line t) ≡ 0 → ⊥ = λ z. omega (arith, z, k, length-drop (index_of 10 t + 1) t) in
        rw (e, le-leb n 4294967295 h, ne_eqb (length (after_line t)) 0 more) refl

    pub budget-good : n ≤ 4294967295 → length t ≤ index_of 10 t + 1 → budget_text cube limit t moves prunes ≡ answer_text (solve_of cube limit n moves prunes)
    unfolding budget_text
    budget-good h k =
        let end : length (after_line t) ≡ 0 = omega (arith, k, length-drop (index_of 10 t + 1) t) in
        rw (e, le-leb n 4294967295 h, eq-eqb (length (after_line t)) 0 end) refl

module _ (cube : CubieCube) (t moves prunes : List ℕ) where
  pub limit-none : amount_of 23 (first_line t) ≡ None → limit_text cube t moves prunes ≡ line refused_word 9
  unfolding limit_text
  limit-none e = rw e refl

  -- no number, or one above 31
  pub limit-bad : ((n : ℕ) → amount_of 23 (first_line t) ≡ Some n → 31 < n) → limit_text cube t moves prunes ≡ line refused_word 9
  unfolding limit_text
  limit-bad h = up-to-bad 31 (amount_of 23 (first_line t)) _ (line refused_word 9) h

  module _ (n : ℕ) (e : amount_of 23 (first_line t) ≡ Some n) where
    pub limit-above : 31 < n → limit_text cube t moves prunes ≡ line refused_word 9
    unfolding limit_text
    limit-above h = rw (e, lt-leb n 31 h) refl

    pub limit-good : n ≤ 31 → limit_text cube t moves prunes ≡ budget_text cube n (after_line t) moves prunes
    unfolding limit_text
    limit-good h = rw (e, le-leb n 31 h) refl

module _ (s moves prunes : List ℕ) where
  pub solution-long : 1024 < length s → solution_text s moves prunes ≡ line refused_word 10
  unfolding solution_text
  solution-long h = rw (lt-leb (length s) 1024 h)

  pub solution-refused : length s ≤ 1024 → eqb (strict_refusal (first_line s)) 0 ≡ false → solution_text s moves prunes ≡ line refused_word (strict_refusal (first_line s))
  unfolding solution_text request_text
  solution-refused h e = rw (le-leb (length s) 1024 h, e)

  -- the same, by what the reader answers
  pub solution-refused-as : (r : Refusal) → length s ≤ 1024 → read_strict (first_line s) ≡ Err r → solution_text s moves prunes ≡ line refused_word (number r)
  solution-refused-as r h e =
      let z = told-strict (first_line s) r e in
      solution-refused h (ne_eqb (strict_refusal (first_line s)) 0 z.0) ∙ ap (line refused_word) z.1

  pub solution-good : length s ≤ 1024 → strict_refusal (first_line s) ≡ 0 → solution_text s moves prunes ≡ limit_text (cube_read (first_line s)) (after_line s) moves prunes
  unfolding solution_text request_text
  solution-good h e = rw (le-leb (length s) 1024 h, eq-eqb (strict_refusal (first_line s)) 0 e) refl

-- ---- the drawing

module _ (s : List ℕ) where
  pub net-long : 1024 < length s → net_text s ≡ line refused_word 10
  unfolding net_text
  net-long h = rw (lt-leb (length s) 1024 h)

  module _ (h : length s ≤ 1024) where
    pub net-length : (length (first_line s) ≡ 54 → ⊥) → net_text s ≡ line refused_word 1
    unfolding net_text drawn_text
    net-length n = rw (le-leb (length s) 1024 h, ne_eqb (length (first_line s)) 54 n)

    pub net-color : length (first_line s) ≡ 54 → all_colors (first_line s) ≡ false → net_text s ≡ line refused_word 2
    unfolding net_text drawn_text
    net-color e b = rw (le-leb (length s) 1024 h, eq-eqb (length (first_line s)) 54 e, b)

    pub net-drawn : length (first_line s) ≡ 54 → all_colors (first_line s) ≡ true → net_text s ≡ drawing (first_line s)
    unfolding net_text drawn_text
    net-drawn e b = rw (le-leb (length s) 1024 h, eq-eqb (length (first_line s)) 54 e, b)
