-- Steps that gave something, read backwards: what each step before gave.
use Rattle.std.proofs.Common.{◌≡◌, refl, ap, not, Bool, true, false, ◌&&◌, Option, Some, None, option_map, Result, Ok, Err, ok_or, if◌then◌else◌}
use Rattle.gitbase_core.specs.Steps.{◌>>=◌, and_then}

pub some_is : {X : Type 0} {x y : X} → Some x ≡ Some y → x ≡ y
some_is e = cc

-- a step that gave something, and the next
pub bound : {A B : Type 0} (o : Option A) (f : A → Option B) (y : B) → (o >>= f) ≡ Some y → (x : A) × (o ≡ Some x) × (f x ≡ Some y)
bound None f y h = absurd (cc)
bound (Some x) f y h = (x, refl, h)

pub mapped : {A B : Type 0} (o : Option A) (f : A → B) (y : B) → option_map f o ≡ Some y → (x : A) × (o ≡ Some x) × (f x ≡ y)
mapped None f y h = absurd (cc)
mapped (Some x) f y h = (x, refl, some_is h)

-- a choice that gave something
pub chosen : {A : Type 0} (b : Bool) (x : Option A) (y : A) → (if b then x else None) ≡ Some y → (b ≡ true) × (x ≡ Some y)
chosen true x y h = (refl, h)
chosen false x y h = absurd (cc)

pub and_first : (a b : Bool) → (a && b) ≡ true → a ≡ true
and_first true b e = refl
and_first false b e = absurd (cc)

pub and_second : (a b : Bool) → (a && b) ≡ true → b ≡ true
and_second true b e = e
and_second false b e = absurd (cc)

-- ---- steps that may refuse

pub ok_is : {X E : Type 0} {x y : X} → (◌≡◌ {A = Result X E} (Ok x) (Ok y)) → x ≡ y
ok_is e = cc

-- a good step, and the next
pub went : {A B E : Type 0} (r : Result A E) (next : A → Result B E) (y : B) → and_then next r ≡ Ok y → (x : A) × (r ≡ Ok x) × (next x ≡ Ok y)
went (Ok x) next y h = (x, refl, h)
went (Err e) next y h = absurd (cc)

pub given : {A E : Type 0} (o : Option A) (e : E) (x : A) → ok_or o e ≡ Ok x → o ≡ Some x
given (Some y) e x h = ap (λ z. Some z) (ok_is h)
given None e x h = absurd (cc)

pub unless : {A E : Type 0} (b : Bool) (e : E) (r : Result A E) (y : A) → (if b then Err e else r) ≡ Ok y → (b ≡ false) × (r ≡ Ok y)
unless true e r y h = absurd (cc)
unless false e r y h = (refl, h)

pub where_so : {A E : Type 0} (b : Bool) (e : E) (r : Result A E) (y : A) → (if b then r else Err e) ≡ Ok y → (b ≡ true) × (r ≡ Ok y)
where_so true e r y h = (refl, h)
where_so false e r y h = absurd (cc)

pub turned : (b : Bool) → not b ≡ false → b ≡ true
turned true e = refl
turned false e = absurd (cc)
