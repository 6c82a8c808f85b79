-- A request's accesses, what was read and stored, and the file that it leaves, as the machine's own definition has
-- them.
-- Assumes nothing.
use Rattle.std.proofs.Common.{◌≡◌, ℕ, zero, suc, ◌≤◌, Bool, true, false, not, eqb, ltb, List, [], ◌∷◌, length, get_or, take, refl, sym, ap, subst, ◌∙◌, arith}
use Rattle.std.specs.declared.option.Option.TheVariants.{None, Some}
use Rattle.std.specs.declared.result.Result.{Result}
use Rattle.std.specs.declared.result.Result.TheVariants.{Ok, Err}
use Rattle.isa.specs.Machine.{next, next_core, with_file}
use Rattle.isa.specs.Address.{access, sum}
use Rattle.isa.specs.Instructions.{Completed, loads, storing, three_words, memory_request, memory_completion}
use Rattle.isa.specs.Pages.{Entry, entry_at, slot_of, table_of, some_permit, needed, ring_allows, physical, within_memory}
use Rattle.isa.specs.Pages.{judged, in_window, translate, marked, Tested, tested_first, test_all}
use Rattle.isa.specs.Pages.{words_at, words_of, Lent, lent, store_all}
use Rattle.isa.specs.Step.{part, counted, failed, finished}
use Rattle.isa.specs.declared.access.Access.{Access}
use Rattle.isa.specs.declared.access.AccessKind.{AccessKind}
use Rattle.isa.specs.declared.access.AccessKind.TheVariants.{Read}
use Rattle.isa.specs.declared.access.Rights.{Rights}
use Rattle.isa.specs.declared.access.Triple.{Triple}
use Rattle.isa.specs.declared.access.Place.{Place}
use Rattle.isa.specs.declared.access.Place.TheVariants.{Load, Store, LoadTable, StoreTable}
use Rattle.isa.specs.declared.access.Fault.{Fault}
use Rattle.isa.specs.declared.instruction.MemoryOp.{MemoryOp}
use Rattle.isa.specs.declared.instruction.MemoryOp.TheVariants.{Stz, Sta, Stt, Stx, Std, Ldd, Stf, Ldf, Min, Lda}
use Rattle.isa.specs.declared.instruction.MemoryOp.TheVariants.{Ldt, Ldx, Add, Sub, And, Ora, Mpy, Jmp, Jpl}
use Rattle.isa.specs.declared.machine.Core.{Core}
use Rattle.isa.specs.declared.machine.File.{File}
use Rattle.isa.proofs.Tests.{either}
use Rattle.isa.proofs.Counts.{made_most}
use Rattle.paging.specs.Outcome.{Outcome}
use Rattle.paging.specs.declared.failure.Failure.{Failure}
use Rattle.paging.proofs.Outcomes.{made_all}
use Rattle.memory_words.specs.Accesses.{words_from}
use Rattle.memory_words.specs.declared.location.Location.{Location}
use Rattle.memory_words.proofs.TestLaws.{unmarked_err}
use Rattle.exec_address.specs.Requests.{request_of, completion_of, words_loaded, words_stored, three_stored}
use Rattle.exec_address.specs.declared.request.Request.{Request}
use Rattle.exec_address.specs.declared.request.Request.TheVariants.{Several}
use Rattle.event.specs.Events.{event_part, by_privilege, ended_part}
use Rattle.event.specs.declared.Ending.{Ending}
use Rattle.event.specs.declared.Event.TheVariants.{Failed}
use Rattle.exec_memory.specs.Served.{accesses_of, several_kind, accessed_by, Served, ReadWords}

-- ---- a read stores nothing

-- a place that takes no word
abbrev pub LoadOnly : Place → Type 0
LoadOnly (Load p) = Unit {0}
LoadOnly (Store p) = ⊥
LoadOnly (LoadTable i) = Unit {0}
LoadOnly (StoreTable i) = ⊥

abbrev AllLoadOnly : List Place → Type 0
AllLoadOnly [] = Unit {0}
AllLoadOnly (x ∷ xs) = LoadOnly x × AllLoadOnly xs

none_stored : (ps : List Place) → AllLoadOnly ps → (m t : List ℕ) → store_all m t ps [] ≡ lent m t
none_stored [] h m t = refl
none_stored (Load p ∷ ps) h m t = none_stored ps h.1 m t
none_stored (Store p ∷ ps) h m t = absurd h.0
none_stored (LoadTable i ∷ ps) h m t = none_stored ps h.1 m t
none_stored (StoreTable i ∷ ps) h m t = absurd h.0

-- a word is stored at the next place
pub stored_after : (x y : Place) → LoadOnly x → (m t : List ℕ) (w : ℕ)
    → store_all m t (y ∷ []) (w ∷ []) ≡ store_all m t (x ∷ y ∷ []) (w ∷ [])
stored_after (Load p) y h m t w = refl
stored_after (Store p) y h m t w = absurd h
stored_after (LoadTable i) y h m t w = refl
stored_after (StoreTable i) y h m t w = absurd h

-- an access to read is to such a place
abbrev Loads : Result Place Fault → Type 0
Loads (Ok p) = LoadOnly p
Loads (Err f) = Unit {0}

within_loads : (words p : ℕ) → Loads (within_memory words Read p)
unfolding within_memory
within_loads words p = either Loads (ltb p words) tt tt

judged_loads : (e : Entry) (slot words ring a : ℕ) → Loads (judged e slot words ring Read a)
unfolding judged
judged_loads e slot words ring a =
    either Loads (not (some_permit e)) tt
    (either Loads (not (needed e Read)) tt
    (either Loads (not (ring_allows e ring)) tt (within_loads words (physical e a))))

read_loads : (t : List ℕ) (words : ℕ) (r : Rights) (alternate : Bool) (a : ℕ)
    → Loads (translate t words r (access Read alternate a))
unfolding translate
read_loads t words r alternate a =
    let i = slot_of (table_of r alternate) a in
    either Loads (in_window r a) tt
    (either Loads r.paging (judged_loads (entry_at r.extended t i) i words r.ring a) (within_loads words a))

pub found_loads : (t : List ℕ) (words : ℕ) (r : Rights) (alternate : Bool) (a : ℕ) (p : Place)
    → Ok p ≡ translate t words r (access Read alternate a) → LoadOnly p
found_loads t words r alternate a p e = subst Loads (sym e) (read_loads t words r alternate a)

-- accesses to read
abbrev pub AllRead : List Access → Type 0
AllRead [] = Unit {0}
AllRead (x ∷ xs) = (x.kind ≡ Read) × AllRead xs

loads_all : (xs : List Access) → AllRead xs → (t : List ℕ) (words : ℕ) (r : Rights)
    → AllLoadOnly (test_all t words r xs).places
loads_all [] h t words r = tt
loads_all (x ∷ xs) h t words r =
    go (translate t words r x) _
    (subst (λ (k : AccessKind). Loads (translate t words r (access k x.alternate x.address))) (sym h.0)
    (read_loads t words r x.alternate x.address))
    (loads_all xs h.1 (marked t words r x) words r)
  where
    go : (y : Result Place Fault) (q : Tested) → Loads y → AllLoadOnly q.places
        → AllLoadOnly (tested_first t y q).places
    go (Ok p) q l k = (l, k)
    go (Err f) q l k = tt

-- ---- what the code has of tests

-- all passed, to the places ps; so many were made, and left the tables u
pub record Passed (r : Tested) (ps : List Place) (n : ℕ) (u : List ℕ) : Type 0 where
  pub tables : u ≡ r.tables
  pub places : ps ≡ r.places
  pub fault : r.fault ≡ None
  pub made : r.made ≡ n

-- one failed
pub record Stopped (r : Tested) (f : Fault) (n : ℕ) (u : List ℕ) : Type 0 where
  pub tables : u ≡ r.tables
  pub fault : r.fault ≡ Some f
  pub made : r.made ≡ n

-- .. under another name of the number
pub numbered : {r : Tested} {f : Fault} {n k : ℕ} {u : List ℕ} → k ≡ n → Stopped r f n u → Stopped r f k u
numbered e q = record { tables = q.tables; fault = q.fault; made = q.made ∙ sym e }

pub none_passed : (t : List ℕ) (words : ℕ) (r : Rights) → Passed (test_all t words r []) [] 0 t
none_passed t words r = record { tables = refl; places = refl; fault = refl; made = refl }

-- the first passed, and those after it passed, or one of them failed; or the first failed
module _ (t : List ℕ) (words : ℕ) (r : Rights) (x : Access) (xs : List Access) (u : List ℕ)
    (m : u ≡ marked t words r x) where
  first_is : (p : Place) → Ok p ≡ translate t words r x
      → tested_first t (Ok p) (test_all u words r xs) ≡ test_all t words r (x ∷ xs)
  first_is p e = λ i. tested_first t (e i) (test_all (m i) words r xs)

  pub first_passed : (p : Place) (ps : List Place) (n : ℕ) (v : List ℕ) → Ok p ≡ translate t words r x
      → Passed (test_all u words r xs) ps n v → Passed (test_all t words r (x ∷ xs)) (p ∷ ps) (suc n) v
  first_passed p ps n v e q =
      subst (λ (y : Tested). Passed y (p ∷ ps) (suc n) v) (first_is p e)
      (record { tables = q.tables; places = ap (p ∷◌) q.places; fault = q.fault; made = ap suc q.made })

  pub then_stopped : (p : Place) (f : Fault) (n : ℕ) (v : List ℕ) → Ok p ≡ translate t words r x
      → Stopped (test_all u words r xs) f n v → Stopped (test_all t words r (x ∷ xs)) f (suc n) v
  then_stopped p f n v e q =
      subst (λ (y : Tested). Stopped y f (suc n) v) (first_is p e)
      (record { tables = q.tables; fault = q.fault; made = ap suc q.made })

  pub first_stopped : (f : Fault) → Err f ≡ translate t words r x → Stopped (test_all t words r (x ∷ xs)) f 1 u
  first_stopped f e =
      let none : u ≡ t = m ∙ unmarked_err t words r x f e in
      subst (λ (y : Result Place Fault). Stopped (tested_first t y (test_all (marked t words r x) words r xs)) f 1 u) e
      (record { tables = none; fault = refl; made = refl })

-- .. of so many words
length_from : (k : AccessKind) (alternate : Bool) (a n : ℕ) → length (words_from k alternate a n) ≡ n
length_from k alternate a zero = refl
length_from k alternate a (suc n) = ap suc (length_from k alternate (sum a 1) n)

module _ (t : List ℕ) (words : ℕ) (r : Rights) (k : AccessKind) (alternate : Bool) (a n : ℕ) (u : List ℕ) where
  abbrev tests : Tested
  tests = test_all t words r (words_from k alternate a n)

  pub all_passed : (ps : List Place) → Outcome tests (Ok ps) → u ≡ tests.tables → Passed tests ps n u
  all_passed ps o e = record {
    tables = e;
    places = sym o.1;
    fault = o.0;
    made = made_all t words r (words_from k alternate a n) o.0 ∙ length_from k alternate a n;
  }

  pub one_stopped : (e : Failure) → Outcome tests (Err e) → u ≡ tests.tables → Stopped tests e.fault e.made u
  one_stopped e o h = record { tables = h; fault = o.0; made = o.1 }

-- three words as STF and LDF ask for them
three_from : (k : AccessKind) (alternate : Bool) (a : ℕ) → words_from k alternate a 3 ≡ three_words k alternate a
three_from k alternate a =
    let e : sum (sum a 1) 1 ≡ sum a 2 = omega arith in
    λ i. access k alternate a ∷ access k alternate (sum a 1) ∷ access k alternate (e i) ∷ []

-- ---- the end of a stage

-- the completed file, and the words of the completion stored at the places
fine_part : (l : ℕ) (c : Core) {g : File} {e : Ending} (n : ℕ) (m t : List ℕ) (ps : List Place) (k : Completed)
    {m' t' : List ℕ} → e ≡ record { references = n; event = None; file = g } → g ≡ k.file → k.error ≡ false
    → lent m' t' ≡ store_all m t ps k.stores
    → ended_part l c e m' t' ≡ counted n (finished c m t ps k)
unfolding event_part by_privilege finished
fine_part l c n m t ps k y h z s =
    rw (y, h, z)
    (ap (λ (i : Lent). counted n (part (with_file c k.file) 0 None i.memory i.tables)) s)

-- all accesses passed, or one failed
module _ (c : Core) (m : List ℕ) (k : List ℕ → Completed) (r : Tested) {u : List ℕ} {n : ℕ} where
  tested_passed : {ps : List Place} → Passed r ps n u
      → counted n (finished c m u ps (k (words_at m u ps))) ≡ accessed_by c m k r
  unfolding accessed_by
  tested_passed q = rw (q.tables, q.places, q.fault, ← q.made) refl

  tested_failed : {f : Fault} → Stopped r f n u → counted n (failed (next_core c) (Some f) m u) ≡ accessed_by c m k r
  unfolding accessed_by
  tested_failed q = rw (q.tables, q.fault, ← q.made) refl

-- what was found of a request in the file f
module _ (f : File) (m t u : List ℕ) (q : Request) (x : Location) (n : ℕ) (few : n ≤ 3) where
  abbrev asked : Tested
  asked = test_all t (length m) x.rights (accesses_of q x.alternate x.address)

  module _ (ps : List Place) (o : Passed asked ps n u) {g : File} {e : Ending}
      (y : e ≡ record { references = n; event = None; file = g }) where
    -- its completion, by the words at the places
    abbrev by : Completed
    by = completion_of q f x.address (words_at m u ps)

    -- all accesses passed, and the words vs were stored
    pub stores : {vs m' t' : List ℕ} → storing g vs ≡ by → lent m' t' ≡ store_all m u ps vs → Served f q x m t e m' t'
    stores {vs} {m'} {t'} i s = record {
      most = rw y few;
      part = λ l c h.
          let z : by.error ≡ false = ap (λ (k : Completed). k.error) (sym i) in
          let v : lent m' t' ≡ store_all m u ps by.stores =
          s ∙ ap (λ (k : Completed). store_all m u ps k.stores) i in
          rw (h.file, h.rights)
          (fine_part l c n m u ps by y (ap (λ (k : Completed). k.file) i) z v
          ∙ tested_passed c m (completion_of q f x.address) asked o);
    }

    -- .. or read
    pub reads : AllRead (accesses_of q x.alternate x.address) → loads g ≡ by → Served f q x m t e m u
    reads a i =
        let xs = accesses_of q x.alternate x.address in
        stores i (sym (none_stored ps (rw o.places (loads_all xs a t (length m) x.rights)) m u))

  -- one failed
  pub fails : {z : Fault} → Stopped asked z n u → {e : Ending}
      → e ≡ record { references = n; event = Some (Failed (Some z)); file = f }
      → Served f q x m t e m u
  unfolding event_part by_privilege
  fails o y = record {
    most = rw y few;
    part = λ l c h. rw (y, h.rights, ← h.file) (tested_failed c m (completion_of q (next c.file) x.address) asked o);
  }

-- ---- two or three words

-- they are asked for from their address on
pub accesses_two : (store : Bool) (n : ℕ) (k : AccessKind) (alternate : Bool) (a : ℕ) → several_kind store ≡ k
    → eqb n 2 ≡ true → accesses_of (Several store n) alternate a ≡ words_from k alternate a 2
accesses_two store n k alternate a e h = rw (e, h) refl

pub accesses_three : (store : Bool) (n : ℕ) (k : AccessKind) (alternate : Bool) (a : ℕ) → several_kind store ≡ k
    → eqb n 2 ≡ false → accesses_of (Several store n) alternate a ≡ words_from k alternate a 3
accesses_three store n k alternate a e h = rw (e, h) (sym (three_from k alternate a))

-- LDD loads two of them, LDF three
pub two_loaded : (n : ℕ) (g : File) (ws : List ℕ) → eqb n 2 ≡ true
    → words_loaded n g (get_or ws 0 0 ∷ get_or ws 1 0 ∷ 0 ∷ []) ≡ words_loaded n g ws
two_loaded n g ws e = rw e refl

pub three_loaded : (n : ℕ) (g : File) (ws : List ℕ) → eqb n 2 ≡ false
    → words_loaded n g (get_or ws 0 0 ∷ get_or ws 1 0 ∷ get_or ws 2 0 ∷ []) ≡ words_loaded n g ws
three_loaded n g ws e = rw e refl

-- what was read of them
pub read_passed : (t : List ℕ) (m : List ℕ) (x : Location) (q : Request) (n : ℕ) (u ws : List ℕ)
    → accesses_of q x.alternate x.address ≡ words_from Read x.alternate x.address n → ReadWords x n m t (Ok ws) u
    → Passed (test_all t (length m) x.rights (accesses_of q x.alternate x.address))
    (test_all t (length m) x.rights (words_from Read x.alternate x.address n)).places n u
read_passed t m x q n u ws e r =
    let places = (test_all t (length m) x.rights (words_from Read x.alternate x.address n)).places in
    subst (λ (xs : List Access). Passed (test_all t (length m) x.rights xs) places n u) (sym e)
    (all_passed t (length m) x.rights Read x.alternate x.address n u places (r.0, refl) r.2)

pub read_stopped : (t : List ℕ) (m : List ℕ) (x : Location) (q : Request) (n : ℕ) (u : List ℕ) (e : Failure)
    → accesses_of q x.alternate x.address ≡ words_from Read x.alternate x.address n → ReadWords x n m t (Err e) u
    → Stopped (test_all t (length m) x.rights (accesses_of q x.alternate x.address)) e.fault e.made u
read_stopped t m x q n u e h r =
    subst (λ (xs : List Access). Stopped (test_all t (length m) x.rights xs) e.fault e.made u) (sym h)
    (one_stopped t (length m) x.rights Read x.alternate x.address n u e (r.0, r.1) r.2)

-- no more of several were made than there are
pub made_few : (t : List ℕ) (words : ℕ) (r : Rights) (k : AccessKind) (alternate : Bool) (a n made : ℕ) → n ≤ 3
    → (test_all t words r (words_from k alternate a n)).made ≡ made → made ≤ 3
made_few t words r k alternate a n made h e =
    let xs = words_from k alternate a n in
    let most = made_most t words r xs in
    let l = length_from k alternate a n in omega (arith, h, e, most, l)

pub all_read : (alternate : Bool) (a n : ℕ) → AllRead (words_from Read alternate a n)
all_read alternate a zero = tt
all_read alternate a (suc n) = (refl, all_read alternate (sum a 1) n)

module _ {store : Bool} (n : ℕ) where
  pub several_stored : store ≡ true → (g : File) (a : ℕ) (ws : List ℕ)
      → storing g (words_stored n g) ≡ completion_of (Several store n) g a ws
  several_stored e g a ws = rw e refl

  pub several_loaded : store ≡ false → (g : File) (a : ℕ) (ws : List ℕ)
      → loads (words_loaded n g ws) ≡ completion_of (Several store n) g a ws
  several_loaded e g a ws = rw e refl

-- STD's two words, and STF's three
pub two_stored : (n : ℕ) (g : File) (w : Triple) → eqb n 2 ≡ true → words_of w ≡ three_stored n g
    → w.a ∷ w.b ∷ [] ≡ words_stored n g
two_stored n g w e h = rw e (ap (take 2) (rw e at h))

pub three_stored_law : (n : ℕ) (g : File) → eqb n 2 ≡ false → three_stored n g ≡ words_stored n g
three_stored_law n g e = rw e refl

-- ---- memory operations

-- an operation's accesses and completion are those of its request
pub request_serves :
    (o : MemoryOp) (g : File) (r : Bool) (a : ℕ) (ws : List ℕ)
    → (accesses_of (request_of o g) r a ≡ memory_request o r a)
    × (completion_of (request_of o g) g a ws ≡ memory_completion o g a ws)
request_serves Stz g r a ws = (refl, refl)
request_serves Sta g r a ws = (refl, refl)
request_serves Stt g r a ws = (refl, refl)
request_serves Stx g r a ws = (refl, refl)
request_serves Std g r a ws = (refl, refl)
request_serves Ldd g r a ws = (refl, refl)
request_serves Stf g r a ws = (refl, refl)
request_serves Ldf g r a ws = (refl, refl)
request_serves Min g r a ws = (refl, refl)
request_serves Lda g r a ws = (refl, refl)
request_serves Ldt g r a ws = (refl, refl)
request_serves Ldx g r a ws = (refl, refl)
request_serves Add g r a ws = (refl, refl)
request_serves Sub g r a ws = (refl, refl)
request_serves And g r a ws = (refl, refl)
request_serves Ora g r a ws = (refl, refl)
request_serves Mpy g r a ws = (refl, refl)
request_serves Jmp g r a ws = (refl, refl)
request_serves Jpl g r a ws = (refl, refl)
