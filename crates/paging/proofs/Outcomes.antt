-- What a test of accesses leaves, by what the code has of it.
-- Assumes nothing.
use Rattle.std.proofs.Common.{◌≡◌, ℕ, suc, List, [], ◌∷◌, length, refl, sym, ap}
use Rattle.std.proofs.lemmas.Option.{none-some}
use Rattle.std.specs.declared.option.Option.TheVariants.{None}
use Rattle.std.specs.declared.result.Result.{Result}
use Rattle.std.specs.declared.result.Result.TheVariants.{Ok, Err}
use Rattle.std.specs.Result.{is_ok}
use Rattle.isa.specs.Pages.{Tested, tested_first, test_all, translate, marked}
use Rattle.isa.specs.declared.access.Access.{Access}
use Rattle.isa.specs.declared.access.Rights.{Rights}
use Rattle.isa.specs.declared.access.Place.{Place}
use Rattle.isa.specs.declared.access.Fault.{Fault}
use Rattle.isa.proofs.Tests.{no_both}
use Rattle.paging.specs.declared.failure.Failure.{Failure}
use Rattle.paging.specs.Outcome.{nth}
use Rattle.paging.proofs.Laws.{refused}

-- as many accesses were made as there are, if all passed
first_passed : (t : List ℕ) (y : Result Place Fault) (q : Tested) (n : ℕ) → (tested_first t y q).fault ≡ None
    → (q.fault ≡ None → q.made ≡ n) → (tested_first t y q).made ≡ suc n
first_passed t (Ok p) q n h k = ap suc (k h)
first_passed t (Err f) q n h k = absurd (none-some f (sym h))

pub made_all : (t : List ℕ) (words : ℕ) (r : Rights) (xs : List Access) → (test_all t words r xs).fault ≡ None
    → (test_all t words r xs).made ≡ length xs
made_all t words r [] h = refl
made_all t words r (x ∷ xs) h =
    first_passed t (translate t words r x) _ _ h (made_all (marked t words r x) words r xs)

-- an access by its number: the place, or the fault
place_or : Place → Result Place Failure → Place
place_or d (Ok p) = p
place_or d (Err e) = d

failure_or : Failure → Result Place Failure → Failure
failure_or d (Ok p) = d
failure_or d (Err e) = e

pub nth_passed : (x : Result Place Fault) (n : ℕ) (p : Place) → Ok p ≡ nth x n → Ok p ≡ x
unfolding place_or
nth_passed (Ok q) n p h = ap Ok (ap (place_or p) h)
nth_passed (Err f) n p h = absurd (no_both (sym (ap is_ok h)))

pub nth_failed : (x : Result Place Fault) (n : ℕ) (e : Failure) → Err e ≡ nth x n
    → (Err e.fault ≡ x) × (e.made ≡ n)
unfolding failure_or
nth_failed (Ok q) n e h = absurd (no_both (ap is_ok h))
nth_failed (Err f) n e h =
    let k = ap (failure_or e) h in (ap (λ (y : Failure). refused y.fault) k, ap (λ (y : Failure). y.made) k)
