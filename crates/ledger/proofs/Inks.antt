-- Inks and their counterparts.
use Rattle.std.proofs.Common.{◌≡◌, ℕ, ◌<◌, Bool, true, false, sym, refl, ◌∙◌, arith}
use Rattle.std.proofs.lemmas.Bool.Decides.{nat_tests}
use Rattle.plane.specs.Operation.{xor}
use Rattle.canvas.specs.Inks.{counterpart, top_ink}
use Rattle.views.specs.Tints.{tinted}

pub counterpart-counterpart : (n : ℕ) → counterpart (counterpart n) ≡ n
counterpart-counterpart n = grind (arith, nat_tests)

counterpart_large : (n : ℕ) → 15 < n → 15 < counterpart n
counterpart_large n h = grind (arith, nat_tests)

counterpart_colours : (n : ℕ) → 0 < n → 0 < counterpart n
counterpart_colours n h = grind (arith, nat_tests)

pub tinted_bare : (b : Bool) → tinted b 0 ≡ 0
tinted_bare true = refl
tinted_bare false = refl

pub tinted-tinted : (a b : Bool) (n : ℕ) → tinted a (tinted b n) ≡ tinted (xor b a) n
tinted-tinted true true n = counterpart-counterpart n
tinted-tinted true false n = refl
tinted-tinted false true n = refl
tinted-tinted false false n = refl

pub tinted_twice : (a : Bool) (n : ℕ) → tinted a (tinted a n) ≡ n
tinted_twice true n = counterpart-counterpart n
tinted_twice false n = refl

pub tinted_own : (b : Bool) (n : ℕ) → counterpart n ≡ n → tinted b n ≡ n
tinted_own true n e = e
tinted_own false n e = refl

-- a tinted ink is its own counterpart only if the ink is
pub own_tinted : (a : Bool) (n : ℕ) → counterpart (tinted a n) ≡ tinted a n → counterpart n ≡ n
own_tinted true n e = sym e ∙ counterpart-counterpart n
own_tinted false n e = e

pub tinted_large : (b : Bool) (n : ℕ) → top_ink < n → top_ink < tinted b n
tinted_large true n h = counterpart_large n h
tinted_large false n h = h

pub tinted_colours : (b : Bool) (n : ℕ) → 0 < n → 0 < tinted b n
tinted_colours true n h = counterpart_colours n h
tinted_colours false n h = h

pub colours_tinted : (b : Bool) (n : ℕ) → 0 < tinted b n → 0 < n
colours_tinted true n h = grind (arith, nat_tests)
colours_tinted false n h = h
