-- Keys are in a total order if they are compared by one in which only equal keys tie.
use Rattle.std.proofs.Common.{◌≡◌, true, false, refl, sym, ap, ◌∙◌}
use Rattle.std.proofs.lemmas.Cmp.{tied_itself}
use Rattle.std.specs.Cmp.{IsTotalOrder}
use Rattle.std.specs.Ordering.{is_lt, ordering_reverse}
use Rattle.std.specs.declared.cmp.Ordering.{Ordering}
use Rattle.std.specs.declared.cmp.Ordering.TheVariants.{Less, Equal, Greater}
use Rattle.shelf.specs.Keys.{Keys, TotalOrder}

less_is : (r : Ordering) → is_lt r ≡ true → r ≡ Less
less_is Less h = refl
less_is Equal h = cc
less_is Greater h = cc

ties : (r : Ordering) → is_lt r ≡ false → is_lt (ordering_reverse r) ≡ false → r ≡ Equal
ties Less h l = cc
ties Equal h l = refl
ties Greater h l = cc

module _ {R K : Type 0} (keys : Keys R K) (cmp : K → K → Ordering) (order : IsTotalOrder cmp) (ordered : (j k : K) → keys.before j k ≡ is_lt (cmp j k)) where
  pub total_order : ((j k : K) → cmp j k ≡ Equal → j ≡ k) → TotalOrder keys
  total_order exact = record {
    irreflexive = λ k. ordered k k ∙ ap is_lt (tied_itself order k);
    transitive = λ a b c h l. ordered a c ∙ ap is_lt (order.trans a b c (less_is _ (sym (ordered a b) ∙ h)) (less_is _ (sym (ordered b c) ∙ l)));
    total = λ a b h l. exact a b (ties _ (sym (ordered a b) ∙ h) (ap is_lt (sym (order.antisymm b a)) ∙ sym (ordered b a) ∙ l));
  }
