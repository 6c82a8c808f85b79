-- What the code has of a test of accesses.
use Rattle.std.specs.Prelude.{◌≡◌, ℕ, List}
use Rattle.std.specs.declared.option.Option.TheVariants.{None, Some}
use Rattle.std.specs.declared.result.Result.{Result}
use Rattle.std.specs.declared.result.Result.TheVariants.{Ok, Err}
use Rattle.isa.specs.Pages.{Tested}
use Rattle.isa.specs.declared.access.Place.{Place}
use Rattle.isa.specs.declared.access.Fault.{Fault}
use Rattle.paging.specs.declared.failure.Failure.{Failure}

-- of the test r: the places, if all passed; or the first fault, and how many accesses were made
abbrev pub Outcome : Tested → Result (List Place) Failure → Type 0
Outcome r (Ok ps) = (r.fault ≡ None) × (r.places ≡ ps)
Outcome r (Err e) = (r.fault ≡ Some e.fault) × (r.made ≡ e.made)

-- an access, of which so many are made
abbrev pub nth : Result Place Fault → ℕ → Result Place Failure
nth (Ok p) n = Ok p
nth (Err f) n = Err (record { fault = f; made = n })
