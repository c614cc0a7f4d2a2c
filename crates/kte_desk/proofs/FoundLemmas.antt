-- What holds of a result.
use Rattle.std.proofs.Common.{Result, Ok, Err, IfOk}

-- what holds of what is there holds of the rest
pub on_ok : {T E : Type 0} (r : Result T E) (P Q : T → Type 0) → ((value : T) → P value → Q value) → IfOk r P → IfOk r Q
on_ok (Ok value) P Q f h = f value h
on_ok (Err error) P Q f h = tt
