use Rattle.std.proofs.Common.{◌≡◌, pos, ◌-ℤ◌, ◌*ℤ◌, ap, ◌∙◌, rules, w64, int_lt, ℤ}
use Rattle.std.proofs.lemmas.Int.{to_z-of_z}
use Rattle.plane.specs.Operation.{negative}
use Rattle.groups.proofs.position.Position.is_improper.Goals as goal

below_zero : (z : ℤ) → int_lt z (pos 0) ≡ negative z
below_zero z = search rules

pub returns : goal.returns
returns c =
    let r = c.args.self in
    let e : c.cross.result ≡ r.a *ℤ r.d -ℤ r.b *ℤ r.c = search rules in
    ap (λ (z : ℤ). int_lt z (pos 0)) (to_z-of_z w64 c.cross.result (record { sfits = c.cross.type_inv })) ∙ below_zero c.cross.result ∙ ap negative e
