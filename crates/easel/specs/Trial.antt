-- What a put answers, with the number of a refusal.
use Rattle.std.specs.Prelude.{ℕ, Ok, Err, Result}
use Rattle.canvas.specs.declared.refusal.PutRefused.{PutRefused}
use Rattle.canvas.specs.Refusals.{put_number}

abbrev pub numbered : Result (Unit {0}) PutRefused → Result (Unit {0}) ℕ
numbered (Ok x) = Ok x
numbered (Err why) = Err (put_number why)
