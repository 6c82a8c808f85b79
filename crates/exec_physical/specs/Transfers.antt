-- An instruction by T and X, by what the code has in hand: the registers, the mode and the displacement.
use Rattle.std.specs.Prelude.{◌≡◌, ℕ, ◌+◌, ◌*◌, Bool, cond, List, length, slice_index}
use Rattle.std.specs.declared.option.Option.TheVariants.{None, Some}
use Rattle.std.specs.declared.result.Result.{Result}
use Rattle.std.specs.declared.result.Result.TheVariants.{Ok, Err}
use Rattle.isa.specs.Machine.{word_range}
use Rattle.isa.specs.Pages.{Tested, words_at, words_of, store_all, lent}
use Rattle.isa.specs.Physical.{transfer_address, transfer_kind, two_words, word_addresses, test_physical, transfer_stores}
use Rattle.isa.specs.Physical.{transferred}
use Rattle.isa.specs.declared.instruction.Transfer.{Transfer}
use Rattle.isa.specs.declared.machine.File.{File}
use Rattle.paging.specs.declared.failure.Failure.{Failure}

-- every address by T, X and a displacement, three words, is below this
abbrev pub address_range : ℕ
address_range = word_range * word_range + word_range * 2

-- the tests of its accesses
abbrev pub transfer_tested : File → Bool → Transfer → ℕ → List ℕ → List ℕ → Tested
transfer_tested f form o d m t =
    test_physical t form (length m) (transfer_kind o) (word_addresses o (transfer_address f d))

-- they all passed, to the places of r: g is the registers afterwards, and the words were stored
pub record Moved (f : File) (o : Transfer) (m t : List ℕ) (r : Tested) (g : File) (m' t' : List ℕ) : Type 0 where
  pub fault : r.fault ≡ None
  pub made : r.made ≡ cond (two_words o) 2 1
  pub file : g ≡ transferred o f (slice_index (words_at m t r.places) 0) (slice_index (words_at m t r.places) 1)
  pub stored : lent m' t' ≡ store_all m t r.places (words_of (transfer_stores o f))

-- one failed, and nothing was stored
pub record Stopped (m t : List ℕ) (r : Tested) (e : Failure) (m' t' : List ℕ) : Type 0 where
  pub fault : r.fault ≡ Some e.fault
  pub made : r.made ≡ e.made
  pub stored : lent m' t' ≡ lent m t

-- x is the answer, m' and t' are what the instruction leaves of memory and tables
abbrev pub Transferred : File → Bool → Transfer → ℕ → List ℕ → List ℕ → Result File Failure → List ℕ → List ℕ → Type 0
Transferred f form o d m t (Ok g) m' t' = Moved f o m t (transfer_tested f form o d m t) g m' t'
Transferred f form o d m t (Err e) m' t' = Stopped m t (transfer_tested f form o d m t) e m' t'
