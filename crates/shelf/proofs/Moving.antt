-- From the slices to the shelf: what an insertion and a removal do to the held and the free records.
use Rattle.std.proofs.Common.{ℕ, ◌-◌, List, take, ap, ◌∙◌}
use Rattle.shelf.specs.Keys.{Keys, TotalOrder, sorted, Sorted}
use Rattle.shelf.specs.Changes.{Stored, Removed}
use Rattle.shelf.proofs.Sorting.{stored_sorted, taken_sorted}

-- what is held after a change is in order
module _ {R K : Type 0} (keys : Keys R K) (o : TotalOrder keys) (count : ℕ) (before after : List R) (s : Sorted keys (take count before)) where
  pub stays_in_order : (r : R) (n : ℕ) → Stored keys r count before after n → Sorted keys (take n after)
  stays_in_order r n h = ap (sorted keys) h.held ∙ stored_sorted keys o r (take count before) s

  pub left_in_order : (k : K) (x : R) → Removed keys k count before after x → Sorted keys (take (count - 1) after)
  left_in_order k x h = ap (sorted keys) h.held ∙ taken_sorted keys o k (take count before) s
