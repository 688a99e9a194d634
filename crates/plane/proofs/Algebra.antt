-- The algebra of operations: composition is associative, with the identity as its unit, and acts on cells; determinants multiply.
use Rattle.std.proofs.Common.{◌≡◌, Bool, true, false, ℤ, pos, ◌+ℤ◌, ◌*ℤ◌, sym, refl, ap, ◌∙◌, inl, inr, arith}
use borrow.Author.Differences.{ints}
use Rattle.plane.specs.declared.cell.Cell.{Cell}
use Rattle.plane.specs.Operation.{Operation, carry, compose, identity, determinant, sign, negative, improper, Unimodular, xor}
use Rattle.plane.proofs.Maps.{through, linear_through, determinants}

pub same-cell : {p q : Cell} → p.x ≡ q.x → p.y ≡ q.y → p ≡ q
same-cell ex ey = λ i. record { x = ex i; y = ey i }

pub same_operation : {g h : Operation} → g.a ≡ h.a → g.b ≡ h.b → g.c ≡ h.c → g.d ≡ h.d → g.e ≡ h.e → g.f ≡ h.f → g.odd ≡ h.odd → g ≡ h
same_operation ea eb ec ed ee ef eo = λ i. record { a = ea i; b = eb i; c = ec i; d = ed i; e = ee i; f = ef i; odd = eo i }

pub xor_assoc : (p q r : Bool) → xor (xor p q) r ≡ xor p (xor q r)
xor_assoc true true true = refl
xor_assoc true true false = refl
xor_assoc true false true = refl
xor_assoc true false false = refl
xor_assoc false q r = refl

pub xor_false : (p : Bool) → xor p false ≡ p
xor_false true = refl
xor_false false = refl

pub xor_same : (p q : Bool) → xor (xor p q) q ≡ p
xor_same true true = refl
xor_same true false = refl
xor_same false true = refl
xor_same false false = refl

pub compose_assoc : (f g h : Operation) → compose (compose f g) h ≡ compose f (compose g h)
compose_assoc f g h = same_operation
    (linear_through f.a f.b g.a g.b g.c g.d h.a h.c)
    (linear_through f.a f.b g.a g.b g.c g.d h.b h.d)
    (linear_through f.c f.d g.a g.b g.c g.d h.a h.c)
    (linear_through f.c f.d g.a g.b g.c g.d h.b h.d)
    (through f.a f.b g.a g.b g.c g.d h.e h.f g.e g.f f.e)
    (through f.c f.d g.a g.b g.c g.d h.e h.f g.e g.f f.f)
    (xor_assoc f.odd g.odd h.odd)

pub carry-compose : (g h : Operation) (p : Cell) → carry (compose g h) p ≡ carry g (carry h p)
carry-compose g h p = same-cell
    (through g.a g.b h.a h.b h.c h.d p.x p.y h.e h.f g.e)
    (through g.c g.d h.a h.b h.c h.d p.x p.y h.e h.f g.f)

first : (x y : ℤ) → pos 1 *ℤ x +ℤ pos 0 *ℤ y ≡ x
first x y = omega (arith, ints)

second : (x y : ℤ) → pos 0 *ℤ x +ℤ pos 1 *ℤ y ≡ y
second x y = omega (arith, ints)

first_end : (x y : ℤ) → pos 1 *ℤ x +ℤ pos 0 *ℤ y +ℤ pos 0 ≡ x
first_end x y = omega (arith, ints)

second_end : (x y : ℤ) → pos 0 *ℤ x +ℤ pos 1 *ℤ y +ℤ pos 0 ≡ y
second_end x y = omega (arith, ints)

first_of : (x y : ℤ) → x *ℤ pos 1 +ℤ y *ℤ pos 0 ≡ x
first_of x y = omega (arith, ints)

second_of : (x y : ℤ) → x *ℤ pos 0 +ℤ y *ℤ pos 1 ≡ y
second_of x y = omega (arith, ints)

none_of : (x y z : ℤ) → x *ℤ pos 0 +ℤ y *ℤ pos 0 +ℤ z ≡ z
none_of x y z = omega (arith, ints)

pub carry-identity : (p : Cell) → carry identity p ≡ p
carry-identity p = same-cell (first_end p.x p.y) (second_end p.x p.y)

pub identity_left : (g : Operation) → compose identity g ≡ g
identity_left g = same_operation (first g.a g.c) (first g.b g.d) (second g.a g.c) (second g.b g.d) (first_end g.e g.f) (second_end g.e g.f) refl

pub identity_right : (g : Operation) → compose g identity ≡ g
identity_right g = same_operation (first_of g.a g.b) (second_of g.a g.b) (first_of g.c g.d) (second_of g.c g.d) (none_of g.a g.b g.e) (none_of g.c g.d g.f) (xor_false g.odd)

pub determinant-compose : (g h : Operation) → determinant (compose g h) ≡ determinant g *ℤ determinant h
determinant-compose g h = determinants g.a g.b g.c g.d h.a h.b h.c h.d

pub negative-sign : (b : Bool) → negative (sign b) ≡ b
negative-sign true = refl
negative-sign false = refl

pub unimodular_is : (g : Operation) → Unimodular g → determinant g ≡ sign (improper g)
unimodular_is g (inl e) = e ∙ sym (ap (λ z. sign (negative z)) e)
unimodular_is g (inr e) = e ∙ sym (ap (λ z. sign (negative z)) e)

pub sign_unimodular : (g : Operation) (b : Bool) → determinant g ≡ sign b → Unimodular g
sign_unimodular g true e = inr e
sign_unimodular g false e = inl e

sign-mul : (b c : Bool) → sign b *ℤ sign c ≡ sign (xor b c)
sign-mul true true = refl
sign-mul true false = refl
sign-mul false true = refl
sign-mul false false = refl

pub improper-compose : (g h : Operation) → Unimodular g → Unimodular h → improper (compose g h) ≡ xor (improper g) (improper h)
improper-compose g h ug uh =
    let e : determinant (compose g h) ≡ sign (xor (improper g) (improper h)) = determinant-compose g h ∙ ap (λ z. z *ℤ determinant h) (unimodular_is g ug) ∙ ap (λ z. sign (improper g) *ℤ z) (unimodular_is h uh) ∙ sign-mul (improper g) (improper h) in
    ap negative e ∙ negative-sign (xor (improper g) (improper h))
