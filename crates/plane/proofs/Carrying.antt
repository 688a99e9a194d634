-- Being carried by an operation of a group is an equivalence of cells.
use Rattle.std.proofs.Common.{sym, ap, ◌∙◌}
use Rattle.plane.specs.declared.cell.Cell.{Cell}
use Rattle.plane.specs.Operation.{Operation, carry, compose, identity}
use Rattle.plane.specs.Laws.{Group, Carried}
use Rattle.plane.proofs.Algebra.{carry-compose, carry-identity}

pub carried_refl : (ops : Operation → Type 0) → Group ops → (c : Cell) → Carried ops c c
carried_refl ops G c = (identity, G.unit, carry-identity c)

pub carried_trans : (ops : Operation → Type 0) → Group ops → (c d e : Cell) → Carried ops c d → Carried ops d e → Carried ops c e
carried_trans ops G c d e k l = (compose l.0 k.0, G.closed l.0 k.0 l.1 k.1, carry-compose l.0 k.0 c ∙ ap (carry l.0) k.2 ∙ l.2)

pub carried_sym : (ops : Operation → Type 0) → Group ops → (c d : Cell) → Carried ops c d → Carried ops d c
carried_sym ops G c d k =
    let h = G.inverse k.0 k.1 in
    (h.0, h.1, ap (carry h.0) (sym k.2) ∙ sym (carry-compose h.0 k.0 c) ∙ ap (λ g. carry g c) h.2 ∙ carry-identity c)
