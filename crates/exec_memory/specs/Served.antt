-- A request at an operand, by what the code has in hand: the registers with P one further, and the rights.
use Rattle.std.specs.Prelude.{ℕ, ◌≤◌, ◌≡◌, Bool, cond, List, [], length, eqb}
use Rattle.std.specs.declared.option.Option.TheVariants.{None, Some}
use Rattle.std.specs.declared.result.Result.{Result}
use Rattle.std.specs.declared.result.Result.TheVariants.{Ok, Err}
use Rattle.isa.specs.Machine.{next, next_core}
use Rattle.isa.specs.Instructions.{Completed, storing, one_word, two_words, three_words, read_and_write}
use Rattle.isa.specs.Pages.{Tested, test_all, after_test, words_at, rights_of}
use Rattle.isa.specs.Step.{Part, counted, failed, finished}
use Rattle.isa.specs.declared.access.Access.{Access}
use Rattle.isa.specs.declared.access.AccessKind.{AccessKind}
use Rattle.isa.specs.declared.access.AccessKind.TheVariants as kinds
use Rattle.isa.specs.declared.access.Rights.{Rights}
use Rattle.isa.specs.declared.machine.Core.{Core}
use Rattle.isa.specs.declared.machine.File.{File}
use Rattle.exec_address.specs.Requests.{completion_of, change_of}
use Rattle.exec_address.specs.declared.request.Request.{Request}
use Rattle.exec_address.specs.declared.request.Request.TheVariants.{Jump, Link, Read, Write, Several, Update}
use Rattle.exec_address.specs.declared.request.Change.{Change}
use Rattle.memory_words.specs.Accesses.{words_from}
use Rattle.memory_words.specs.declared.location.Location.{Location}
use Rattle.event.specs.Events.{ended_part}
use Rattle.event.specs.declared.Ending.{Ending}
use Rattle.event.specs.declared.Event.TheVariants.{Failed}
use Rattle.paging.specs.declared.failure.Failure.{Failure}

-- c executes an instruction: its file with P one further is f, and its accesses are judged by r
pub record Executing (c : Core) (f : File) (r : Rights) : Type 0 where
  pub file : next c.file ≡ f
  pub rights : rights_of c ≡ r

-- two or three words are written, or read
abbrev pub several_kind : Bool → AccessKind
several_kind store = cond store kinds.Write kinds.Read

-- the accesses that a request stands for at the address a, by the alternate rule or not
abbrev pub accesses_of : Request → Bool → ℕ → List Access
accesses_of Jump alternate a = []
accesses_of Link alternate a = []
accesses_of (Read k) alternate a = one_word kinds.Read alternate a
accesses_of (Write w) alternate a = one_word kinds.Write alternate a
accesses_of (Several store n) alternate a =
    let k = several_kind store in cond (eqb n 2) (two_words k alternate a) (three_words k alternate a)
accesses_of (Update k) alternate a = read_and_write alternate a

-- accesses were tested; k completes by the words read
unfoldable pub accessed_by : Core → List ℕ → (List ℕ → Completed) → Tested → Part
accessed_by c m k r =
    counted r.made
    (after_test r.fault (finished c m r.tables r.places (k (words_at m r.tables r.places)))
    (λ x. failed (next_core c) (Some x) m r.tables))

-- a request at the address a
abbrev pub requested : Core → List ℕ → List ℕ → Request → Bool → ℕ → Part
requested c m t q alternate a =
    accessed_by c m (completion_of q (next c.file) a) (test_all t (length m) (rights_of c) (accesses_of q alternate a))

-- the ending e is what is answered for a request in every core that executes it
pub record Served (f : File) (q : Request) (x : Location) (m t : List ℕ) (e : Ending) (m' t' : List ℕ) : Type 0 where
  pub most : e.references ≤ 3
  pub part :
      (l : ℕ) (c : Core) → Executing c f x.rights
      → ended_part l c e m' t' ≡ requested c m t q x.alternate x.address

-- .. where the completion is the file f as it is, and the words ws stored
abbrev pub StoredWords : File → Location → List ℕ → ℕ → List ℕ → List ℕ → Ending → List ℕ → List ℕ → Type 0
StoredWords f x ws n m t e m' t' =
    (q : Request) → accesses_of q x.alternate x.address ≡ words_from kinds.Write x.alternate x.address n
    → ((vs : List ℕ) → completion_of q f x.address vs ≡ storing f ws)
    → Served f q x m t e m' t'

-- so many words were read from an address on, or an access failed: r is the answer, u the tables afterwards
abbrev pub ReadWords : Location → ℕ → List ℕ → List ℕ → Result (List ℕ) Failure → List ℕ → Type 0
ReadWords x n m t (Ok ws) u =
    let r = test_all t (length m) x.rights (words_from kinds.Read x.alternate x.address n) in
    (r.fault ≡ None) × (ws ≡ words_at m u r.places) × (u ≡ r.tables)
ReadWords x n m t (Err e) u =
    let r = test_all t (length m) x.rights (words_from kinds.Read x.alternate x.address n) in
    (r.fault ≡ Some e.fault) × (r.made ≡ e.made) × (u ≡ r.tables)

-- the end of a change of a word: the instruction goes on, or an access failed
abbrev pub after_exchange : File → Change → Result ℕ Failure → Ending
after_exchange f k (Ok w) = record { references = 2; event = None; file = (change_of k f w).file }
after_exchange f k (Err e) = record { references = e.made; event = Some (Failed (Some e.fault)); file = f }
