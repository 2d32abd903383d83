-- A search without a budget, which counts its entries. Assumes nothing: these are definitions.
use Rattle.std.specs.Prelude.{ℕ, suc}
use Rattle.base.specs.Search.{Res, still, Rules}

-- The same search in all that it tries, cuts and ends, but an entry adds one to a count and is never refused; `finish`: what happens at an end,
-- which may count too
unfoldable pub tallied : {A S M X : Type 0} → Rules A S M X → (X → ℕ → Res A ℕ) → Rules A ℕ M X
tallied r finish =
    record {
      moves = r.moves;
      avail = r.avail;
      next = r.next;
      ends = r.ends;
      cut = r.cut;
      finish = finish;
      pay = λ n. still (suc n);
    }
