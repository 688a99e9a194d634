-- Parts of an output that follow one another.
use Rattle.std.proofs.Common.{◌≡◌, ℕ, ◌+◌, ◌-◌, ◌<◌, ◌≤◌, min, ◌⊎◌, List, [], ◌++◌, length, take, drop, sym, ap, ◌∙◌, inl, inr, arith, length-append, length-drop, take-append-drop, length-take}
use native.Mathlib.Nat.{min-eq_left, min-eq_right}
use Rattle.std.proofs.lemmas.Bool.{cases_lt}
use Rattle.std.proofs.lemmas.List.{append-nil, take_all, take-take, take_at, drop-drop, drop_at, drop_all, drop-take}
use Rattle.views.specs.Windows.{placed}
use Rattle.history.specs.Histories.{part, past}

-- where a part ends, as the output sees it
past_cases : (long at n : ℕ) → ((at + n ≤ long) × (past long at n ≡ at + n)) ⊎ ((long < at + n) × (past long at n ≡ long))
past_cases long at n = go (cases_lt long (at + n))
  where
    go : (long < at + n) ⊎ (at + n ≤ long) → ((at + n ≤ long) × (past long at n ≡ at + n)) ⊎ ((long < at + n) × (past long at n ≡ long))
    go (inl h) = inr (h, min-eq_left (omega arith))
    go (inr h) = inl (h, min-eq_right h)

pub past_on : (long at n : ℕ) → at ≤ long → at ≤ past long at n
past_on long at n h = omega arith

pub take_past : (xs : List ℕ) (long at n : ℕ) → length xs ≡ long → take (past long at n) xs ≡ take (at + n) xs
take_past xs long at n e = go (past_cases long at n)
  where
    go : ((at + n ≤ long) × (past long at n ≡ at + n)) ⊎ ((long < at + n) × (past long at n ≡ long)) → take (past long at n) xs ≡ take (at + n) xs
    go (inl h) = ap (λ k. take k xs) h.1
    go (inr h) = ap (λ k. take k xs) h.1 ∙ take_all long xs (omega arith) ∙ sym (take_all (at + n) xs (omega (arith, h.0)))

pub drop_past : (xs : List ℕ) (long at n : ℕ) → length xs ≡ long → drop (past long at n) xs ≡ drop (at + n) xs
drop_past xs long at n e = go (past_cases long at n)
  where
    go : ((at + n ≤ long) × (past long at n ≡ at + n)) ⊎ ((long < at + n) × (past long at n ≡ long)) → drop (past long at n) xs ≡ drop (at + n) xs
    go (inl h) = ap (λ k. drop k xs) h.1
    go (inr h) = ap (λ k. drop k xs) h.1 ∙ drop_all long xs (omega arith) ∙ sym (drop_all (at + n) xs (omega (arith, h.0)))

-- outputs that agree up to the end of a part agree in the part, and before it
pub part_front : (xs ys : List ℕ) (long at n : ℕ) → length xs ≡ long → length ys ≡ long → take (past long at n) xs ≡ take (past long at n) ys → part at n xs ≡ part at n ys
part_front xs ys long at n ex ey h =
    sym (drop-take at n xs) ∙ ap (drop at) (sym (take_past xs long at n ex) ∙ h ∙ take_past ys long at n ey) ∙ drop-take at n ys

pub front_front : (xs ys : List ℕ) (i j : ℕ) → i ≤ j → take j xs ≡ take j ys → take i xs ≡ take i ys
front_front xs ys i j h e = sym (take-take i j xs h) ∙ ap (take i) e ∙ take-take i j ys h

-- a part and what comes after it
pub part_rest : (xs : List ℕ) (long at n : ℕ) → length xs ≡ long → drop at xs ≡ part at n xs ++ drop (past long at n) xs
part_rest xs long at n e =
    sym (take-append-drop n (drop at xs)) ∙ ap (λ ys. part at n xs ++ ys) (drop-drop n at xs ∙ sym (drop_past xs long at n e))

pub part_long : (xs ys : List ℕ) (at n : ℕ) → length xs ≡ length ys → length (part at n xs) ≡ length (part at n ys)
part_long xs ys at n e =
    length-take n (drop at xs) ∙ ap (min n) (length-drop at xs ∙ ap (λ k. k - at) e ∙ sym (length-drop at ys)) ∙ sym (length-take n (drop at ys))

-- an output in which only one part has changed
pub record Patched (at n : ℕ) (new out more : List ℕ) : Type 0 where
  pub early : take at more ≡ take at out
  pub here : part at n more ≡ new
  pub late : drop (at + n) more ≡ drop (at + n) out
  pub long : length more ≡ length out

module _ (at n : ℕ) (new out : List ℕ) (h : at ≤ length out) (e : length new ≡ length (part at n out)) where
  size : length new ≡ min n (length out - at)
  size = e ∙ length-take n (drop at out) ∙ ap (min n) (length-drop at out)

  front : length (take at out) ≡ at
  front = let l = length-take at out in omega arith

  behind : drop at (placed out at new) ≡ new ++ drop (at + length new) out
  behind = drop_at (take at out) (new ++ drop (at + length new) out) at front

  -- the part fits, or the output ends in it
  ways : (length new ≡ n) ⊎ ((length new ≤ n) × (at + length new ≡ length out))
  ways = go (cases_lt (length out) (at + n))
    where
      go : (length out < at + n) ⊎ (at + n ≤ length out) → (length new ≡ n) ⊎ ((length new ≤ n) × (at + length new ≡ length out))
      go (inl k) = let s = size in inr (omega arith, omega arith)
      go (inr k) = let s = size in inl (omega arith)

  here_by : (length new ≡ n) ⊎ ((length new ≤ n) × (at + length new ≡ length out)) → take n (new ++ drop (at + length new) out) ≡ new
  here_by (inl k) = take_at new (drop (at + length new) out) n k
  here_by (inr k) =
      let none : drop (at + length new) out ≡ [] = drop_all (at + length new) out (omega (arith, k.1)) in
      take_all n (new ++ drop (at + length new) out) (omega (arith, k.0, length-append new (drop (at + length new) out), ap length none)) ∙ ap (λ ys. new ++ ys) none ∙ append-nil new

  late_by : (length new ≡ n) ⊎ ((length new ≤ n) × (at + length new ≡ length out)) → drop n (new ++ drop (at + length new) out) ≡ drop (at + n) out
  late_by (inl k) = drop_at new (drop (at + length new) out) n k ∙ ap (λ i. drop (at + i) out) k
  late_by (inr k) =
      let none : drop (at + length new) out ≡ [] = drop_all (at + length new) out (omega (arith, k.1)) in
      drop_all n (new ++ drop (at + length new) out) (omega (arith, k.0, length-append new (drop (at + length new) out), ap length none)) ∙ sym (drop_all (at + n) out (omega (arith, k.0, k.1)))

  pub patch : Patched at n new out (placed out at new)
  patch = record {
    early = take_at (take at out) (new ++ drop (at + length new) out) at front;
    here = ap (take n) behind ∙ here_by ways;
    late = sym (drop-drop n at (placed out at new)) ∙ ap (drop n) behind ∙ late_by ways;
    long = let a = length-append (take at out) (new ++ drop (at + length new) out) in let b = length-append new (drop (at + length new) out) in let c = length-drop (at + length new) out in let d = front in let s = size in omega arith;
  }
