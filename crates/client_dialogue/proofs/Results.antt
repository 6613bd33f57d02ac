-- Clauses of results.
use Rattle.std.proofs.Common.{◌≡◌, true, false, Ok, Err, Result, OnErr, OnOk}
use Rattle.std.specs.Result.{is_err}

pub on_err : {A E : Type 0} (r : Result A E) (P : Type 0) → P → OnErr r P
on_err (Ok a) P p = tt
on_err (Err e) P p = p

pub ok_by : {A E : Type 0} (r : Result A E) (P : Type 0) → is_err r ≡ false → OnOk r P → P
ok_by (Ok a) P e p = p
ok_by (Err x) P e p = (let clash : true ≡ false = e in cc)

pub err_by : {A E : Type 0} (r : Result A E) (P : Type 0) → is_err r ≡ true → OnErr r P → P
err_by (Ok a) P e p = (let clash : false ≡ true = e in cc)
err_by (Err x) P e p = p

pub on_err_by : {A E : Type 0} (r : Result A E) (P Q : Type 0) → (P → Q) → OnErr r P → OnErr r Q
on_err_by (Ok a) P Q f h = tt
on_err_by (Err e) P Q f h = f h
