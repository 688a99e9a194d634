use Rattle.std.proofs.Common.{◌≡◌, ℕ, List, [], ◌∷◌, ◌++◌, ap, ◌∙◌}
use Rattle.views.specs.Windows.{decimal, header, written_over}
use Rattle.views.proofs.Placing.{Written, written_on, joined}
use Rattle.views.proofs.window.bytes.put_header.Goals as goal

pub returns-clause-output : goal.returns-clause-output
returns-clause-output c =
    let xs = c.args.output.now in
    let wide = decimal c.args.width in
    let high = decimal c.args.height in
    let magic : List ℕ = 80 ∷ 54 ∷ 10 ∷ [] in
    let gap : List ℕ = 32 ∷ [] in
    let depth : List ℕ = 10 ∷ 50 ∷ 53 ∷ 53 ∷ 10 ∷ [] in
    let w1 : Written xs magic c.put-at.new.output c.put-at.result = record { output = c.put-at.ensures.output; next = c.put-at.ensures.count } in
    let w2 = written_on xs magic wide _ c.put_decimal-at.new.output _ c.put_decimal-at.result w1 c.put_decimal-at.ensures.output c.put_decimal-at.ensures.count in
    let w3 = written_on xs (magic ++ wide) gap _ c.put-at-2.new.output _ c.put-at-2.result w2 c.put-at-2.ensures.output c.put-at-2.ensures.count in
    let w4 = written_on xs ((magic ++ wide) ++ gap) high _ c.put_decimal-at-2.new.output _ c.put_decimal-at-2.result w3 c.put_decimal-at-2.ensures.output c.put_decimal-at-2.ensures.count in
    let w5 = written_on xs (((magic ++ wide) ++ gap) ++ high) depth _ c.put.new.output _ c.put.result w4 c.put.ensures.output c.put.ensures.count in
    w5.output ∙ ap (λ us. written_over us xs) (let e : (((magic ++ wide) ++ gap) ++ high) ++ depth ≡ header c.args.width c.args.height = ap (λ ys. magic ++ ys) (joined wide high depth 32) in e)
