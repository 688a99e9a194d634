use Rattle.std.proofs.Common.{◌≡◌, pos, ◌-ℤ◌, ◌*ℤ◌, nat_abs, ap, ◌∙◌, ap₂, arith, w64}
use Rattle.ints.specs.Floor.{floor_mod, floor_div}
use Rattle.ints.proofs.Sizes.{z64, through_64, difference_is}
use Rattle.std.proofs.lemmas.Int.{to_z-of_z}
use Rattle.plane.proofs.Algebra.{same-cell}
use Rattle.lattice.proofs.reduced.Reduced.home.Goals as goal

pub returns : goal.returns
returns c =
    let t = c.args.self in
    let x = c.args.at.x in
    let y = c.args.at.y in
    let rows = c.floor_div-rows.result in
    let p : z64 c.from-2.result ≡ pos t.p = to_z-of_z w64 c.from-2.result (record { sfits = c.from-2.type_inv }) ∙ c.from-2.ensures in
    let b : z64 c.from.result ≡ pos t.b = to_z-of_z w64 c.from.result (record { sfits = c.from.type_inv }) ∙ c.from.ensures in
    let d : z64 c.from-d.result ≡ pos t.d = to_z-of_z w64 c.from-d.result (record { sfits = c.from-d.type_inv }) ∙ c.from-d.ensures in
    let ty : z64 y ≡ y = through_64 y (omega (arith, c.requires.4.1)) in
    -- the row, and how many rows of the reduced vectors were taken from it
    let row : c.floor_mod-y.result ≡ pos (floor_mod y t.d) = c.floor_mod-y.ensures ∙ ap₂ (λ z n. pos (floor_mod z n)) ty (ap nat_abs d) in
    let taken : rows ≡ floor_div y t.d = c.floor_div-rows.ensures ∙ ap₂ (λ z n. floor_div z n) ty (ap nat_abs d) in
    let columns : c.product.result ≡ floor_div y t.d *ℤ pos t.b = c.product.ensures.value ∙ ap₂ ◌*ℤ◌ (to_z-of_z w64 rows (record { sfits = c.floor_div-rows.type_inv }) ∙ taken) b in
    -- the column
    let corrected = difference_is x c.product.result (omega (arith, c.requires.4.0)) c.product.ensures.bound ∙ ap (λ k. x -ℤ k) columns in
    let column : c.floor_mod-x.result ≡ pos (floor_mod (x -ℤ floor_div y t.d *ℤ pos t.b) t.p) = c.floor_mod-x.ensures ∙ ap₂ (λ z n. pos (floor_mod z n)) corrected (ap nat_abs p) in
    same-cell
    (to_z-of_z w64 c.floor_mod-x.result (record { sfits = c.floor_mod-x.type_inv }) ∙ column)
    (to_z-of_z w64 c.floor_mod-y.result (record { sfits = c.floor_mod-y.type_inv }) ∙ row)
