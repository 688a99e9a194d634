-- A new dense canvas fits its bytes.
use Rattle.std.proofs.Common.{◌≡◌, ℕ, ◌+◌, ◌*◌, ◌/◌, ◌%◌, ◌≤◌, mul_comm, arith}
use Rattle.std.proofs.lemmas.Nat.{div-add-mod', mul-le}
use Rattle.dense.specs.Making.{rows_of}

pub rows_fit : (n w h : ℕ) → h ≡ rows_of n w → w * h ≤ n
rows_fit n w h e =
    let m : h ≤ n / w = omega arith in
    let a : h * w ≤ n / w * w = mul-le h w (n / w) w m (omega arith) in
    let b : n / w * w + n % w ≡ n = div-add-mod' n w in
    let c : w * h ≡ h * w = mul_comm w h in
    omega arith
