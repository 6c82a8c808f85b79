-- Values that a test decides, and tests that stand together.
-- Assumes nothing.
use Rattle.std.proofs.Common.{◌≡◌, Bool, true, false, cond, ◌&&◌, ◌||◌, sym, refl}
use mathlib.Core.Bool.{false≢true}
use Rattle.std.specs.declared.option.Option.{Option}
use Rattle.std.specs.declared.option.Option.TheVariants.{None, Some}
use Rattle.isa.specs.Pages.{after_test}
use Rattle.isa.specs.declared.access.Fault.{Fault}

-- one of two values, by a test
pub either : {A : Type 0} (P : A → Type 0) (b : Bool) {x y : A} → P x → P y → P (cond b x y)
either P true p q = p
either P false p q = q

-- .. where the test's outcome is used
pub decided : {A : Type 0} (P : A → Type 0) (b : Bool) {x y : A} → (b ≡ true → P x) → (b ≡ false → P y) → P (cond b x y)
decided P true p q = p refl
decided P false p q = q refl

-- .. by whether an access failed
pub by_fault : {A : Type 0} (P : A → Type 0) (x : Option Fault) {y : A} {g : Fault → A} → P y
    → ((f : Fault) → P (g f)) → P (after_test x y g)
by_fault P None p q = p
by_fault P (Some f) p q = q f

pub alike_by_fault : {A B : Type 0} (R : A → B → Type 0) (x : Option Fault) {a : A} {g : Fault → A} {b : B}
    {h : Fault → B} → R a b → ((f : Fault) → R (g f) (h f)) → R (after_test x a g) (after_test x b h)
alike_by_fault R None p q = p
alike_by_fault R (Some f) p q = q f

-- two values by one test, and by the same two tests
pub alike : {A B : Type 0} (R : A → B → Type 0) (x : Bool) {a b : A} {u v : B} → R a u → R b v
    → R (cond x a b) (cond x u v)
alike R true h k = h
alike R false h k = k

pub alike_twice : {A B : Type 0} (R : A → B → Type 0) (x y : Bool) {a b c : A} {u v : B} → R a u → R b u → R c v
    → R (cond x a (cond y b c)) (cond (x || y) u v)
alike_twice R true y h k l = h
alike_twice R false true h k l = k
alike_twice R false false h k l = l

-- no test has both outcomes
pub no_both : false ≡ true → ⊥
no_both = false≢true

-- a test that cannot hold does not
pub refuted : (b : Bool) → (b ≡ true → ⊥) → b ≡ false
refuted true h = absurd (h refl)
refuted false h = refl

-- of two tests, one or both, or neither
pub or_left : (x y : Bool) → x ≡ true → (x || y) ≡ true
or_left true y h = refl
or_left false y h = absurd (no_both h)

pub or_right : (x y : Bool) → y ≡ true → (x || y) ≡ true
or_right true y h = refl
or_right false y h = h

pub neither : (x y : Bool) → (x || y) ≡ false → (x ≡ false) × (y ≡ false)
neither true y h = absurd (no_both (sym h))
neither false y h = (refl, h)

pub and_both : {x y : Bool} → x ≡ true → y ≡ true → (x && y) ≡ true
and_both h k = simp (h, k)

pub and_left : (x y : Bool) → (x && y) ≡ true → x ≡ true
and_left true y h = refl
and_left false y h = h

pub and_right : (x y : Bool) → (x && y) ≡ true → y ≡ true
and_right true y h = h
and_right false y h = absurd (no_both h)
