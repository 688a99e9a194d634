-- Parts of a palette and of an output, as the code cuts them.
use Rattle.std.proofs.Common.{◌≡◌, ℕ, ◌-◌, ◌<◌, ◌≤◌, min, ◌⊎◌, List, length, take, drop, sym, ap, ◌∙◌, inl, inr, arith, length-drop, length-take}
use borrow.Rule.Slice.PartMut.{put_mid}
use Rattle.std.proofs.lemmas.Bool.{cases_lt}
use Rattle.std.proofs.lemmas.List.{take_all}
use Rattle.views.specs.Windows.{placed}
use Rattle.views.proofs.Placing.{mid_placed}
use Rattle.history.specs.Histories.{part, past}

-- as many as are asked for, at most all
pub take_some : (xs : List ℕ) (n k : ℕ) → k ≡ min n (length xs) → take k xs ≡ take n xs
take_some xs n k e = go (cases_lt (length xs) n)
  where
    go : (length xs < n) ⊎ (n ≤ length xs) → take k xs ≡ take n xs
    go (inl h) = take_all k xs (omega arith) ∙ sym (take_all n xs (omega arith))
    go (inr h) = ap (λ i. take i xs) (let f : k ≡ n = omega arith in f)

module _ (out : List ℕ) (at n end : ℕ) (near : at ≤ length out) (e : end ≡ past (length out) at n) where
  size : end - at ≡ min n (length (drop at out))
  size = let d = length-drop at out in omega arith

  -- the part that a call is given
  pub cut_part : take (end - at) (drop at out) ≡ part at n out
  cut_part = take_some (drop at out) n (end - at) size

  -- the output after it
  pub put_part : (new last : List ℕ) → last ≡ new → length new ≡ length (part at n out) → put_mid at (end - at) out last ≡ placed out at new
  put_part new last f long = mid_placed out last new at (end - at) f (size ∙ sym (length-take n (drop at out)) ∙ sym long)
