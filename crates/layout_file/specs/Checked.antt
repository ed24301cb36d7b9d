-- A value, or the fault that comes first.
use Rattle.std.specs.Prelude.{ℕ, ◌+◌, List, [], ◌∷◌, ◌++◌, Result, Ok, Err}
use Rattle.layout_file.specs.declared.fault.LayoutFault.{LayoutFault}

abbrev pub Checked : Type 0 → Type 0
Checked A = Result A LayoutFault

-- the second step, if the first found no fault
infixl 10 ◌>>=◌
abbrev pub ◌>>=◌ : {A B : Type 0} → Checked A → (A → Checked B) → Checked B
Ok a >>= f = f a
Err e >>= f = Err e

-- the value changed by f, if there is one
abbrev pub map_ok : {A B : Type 0} → (A → B) → Checked A → Checked B
map_ok f (Ok a) = Ok (f a)
map_ok f (Err e) = Err e

-- what f gives of each, joined in order, or the first fault; the first has the number n
abbrev pub gather : {A B : Type 0} → (ℕ → A → Checked (List B)) → ℕ → List A → Checked (List B)
gather f n [] = Ok []
gather f n (x ∷ xs) = f n x >>= (λ here. map_ok (λ more. here ++ more) (gather f (n + 1) xs))

abbrev pub one : {A : Type 0} → A → List A
one a = a ∷ []
