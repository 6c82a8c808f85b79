-- The stages as the machine's own definition has them: an unprivileged instruction, and the fetch.
-- Assumes nothing.
use Prim.Native.Nat.{ℕ, ◌<◌, ◌≤◌}
use native.Mathlib.Omega.{arith}
use mathlib.Core.Path.{◌≡◌, refl, ap, sym, ◌∙◌, subst}
use mathlib.Core.Bool.{Bool, true, false, cond, not}
use mathlib.Core.List.{List, [], ◌∷◌}
use lib.IntN.{ℤ}
use lib.ListN.{get_or, length}
use lib.Dec.{ltb, eqb}
use borrow.Author.Tests.{ltb-false, leb-true, not-false}
use mir.Syntax.{w16}
use mir.Val.{SFits, to_z, of_z}
use mir.ValLaws.{to_z-of_z}
use Rattle.std.specs.declared.option.Option.{Option}
use Rattle.std.specs.declared.option.Option.TheVariants.{None, Some}
use Rattle.std.specs.declared.result.Result.{Result}
use Rattle.std.specs.declared.result.Result.TheVariants.{Ok, Err}
use Rattle.isa.proofs.Tests.{either, decided}
use Rattle.isa.proofs.Counts.{counted_twice, counted_none}
use Rattle.isa.specs.Machine.{reg, next, next_core, with_file, ring_of}
use Rattle.isa.specs.Address.{access, first_rule, first_address, address_rule, indirect_access, effective_address}
use Rattle.isa.specs.Address.{byte_address}
use Rattle.isa.specs.Instructions.{Completed, indirect_request, request, complete, memory_request, memory_completion}
use Rattle.isa.specs.Pages.{Entry, entry_at, slot_of, some_permit, needed, ring_allows, physical, within_memory, judged}
use Rattle.isa.specs.Pages.{in_window, translate, marked, Tested, test_all, after_test, words_at, word_at, rights_of}
use Rattle.isa.specs.Pages.{lowered}
use Rattle.isa.specs.Pages.{lowered_pcr}
use Rattle.isa.specs.Step.{Part, finished, operands, operands_tested, indirect_tested, user_stage, failed, after_fetch}
use Rattle.isa.specs.Step.{privileged, counted}
use Rattle.isa.specs.declared.access.Access.{Access}
use Rattle.isa.specs.declared.access.AccessKind.TheVariants.{Fetch, Indirect}
use Rattle.isa.specs.declared.access.Rights.{Rights}
use Rattle.isa.specs.declared.access.Place.{Place}
use Rattle.isa.specs.declared.access.Place.TheVariants.{Load, Store, LoadTable, StoreTable}
use Rattle.isa.specs.declared.access.Fault.{Fault}
use Rattle.isa.specs.declared.instruction.MemoryOp.{MemoryOp}
use Rattle.isa.specs.declared.instruction.Mode.{Mode}
use Rattle.isa.specs.declared.instruction.User.{User}
use Rattle.isa.specs.declared.instruction.User.TheVariants.{Memory, Jump, Skip, Logic, RegisterAdd, NoOperation}
use Rattle.isa.specs.declared.instruction.User.TheVariants.{Shift, SetArgument, AddArgument, Bit, LoadByte}
use Rattle.isa.specs.declared.instruction.User.TheVariants.{StoreByte, Mix3, Multiply, Divide}
use Rattle.isa.specs.declared.machine.Control.{Control}
use Rattle.isa.specs.declared.machine.Core.{Core}
use Rattle.isa.specs.declared.machine.File.{File}
use Rattle.isa.specs.declared.machine.Register.TheVariants.{P}
use Rattle.exec_register.specs.Completion.{register_completion}
use Rattle.exec_register.proofs.Laws.{register_completion_law}
use Rattle.exec_address.specs.Addresses.{first_at, has_indirect, after_indirect}
use Rattle.exec_address.specs.Requests.{request_of, completion_of}
use Rattle.exec_address.specs.declared.request.Request.{Request}
use Rattle.exec_address.specs.declared.request.Request.TheVariants.{Read, Update}
use Rattle.exec_address.specs.declared.request.Change.TheVariants.{PutByte}
use Rattle.exec_address.specs.declared.request.Reading.TheVariants.{Byte}
use Rattle.exec_address.proofs.Laws.{first_address_law, indirect_access_law, effective_address_law}
use Rattle.paging.proofs.Laws.{passed}
use Rattle.paging.proofs.Levels.{same_ring}
use Rattle.paging.specs.Levels.{level_rights}
use Rattle.memory_words.specs.declared.location.Location.{Location}
use Rattle.event.specs.Events.{event_part, ending_of, after_references, by_privilege, ended_part}
use Rattle.event.specs.declared.Ending.{Ending}
use Rattle.event.specs.declared.Event.{Event}
use Rattle.event.specs.declared.Event.TheVariants.{Error, Failed as Faulted}
use Rattle.exec_memory.specs.Served.{Executing, accesses_of, accessed_by, requested, Served}
use Rattle.exec_memory.proofs.RequestLaws.{Passed, Stopped, none_passed, first_passed, first_stopped, request_serves}
use Rattle.exec_memory.specs.Stages.{ExecutingAt, ByIndirect, Addressed, UserStage, byte_location, addressed}
use Rattle.exec_memory.specs.Stages.{after_indirect_word, level_core, ring_from, ring_after}
use Rattle.exec_memory.specs.declared.address.Effective.{Effective}

-- ---- a request

-- the request q is that of the instruction u with the indirect word i
requested_is :
    (c : Core) (m t : List ℕ) (u : User) (i : ℕ) (q : Request) (alternate : Bool) (a : ℕ)
    → accesses_of q alternate a ≡ request u c.file i
    → ((ws : List ℕ) → completion_of q (next c.file) a ws ≡ complete u c.file i ws)
    → requested c m t q alternate a ≡ operands c m t u i
unfolding operands operands_tested accessed_by
requested_is c m t u i q alternate a e h =
    ap (λ (xs : List Access). accessed_by c m (completion_of q (next c.file) a)
    (test_all t (length m) (rights_of c) xs))
    e
    ∙ go (test_all t (length m) (rights_of c) (request u c.file i))
  where
    go : (r : Tested) → accessed_by c m (completion_of q (next c.file) a) r ≡ operands_tested c m u i r
    go r = rw (h (words_at m r.tables r.places)) refl

-- ---- the indirect word

-- an effective address, by its parts
abbrev effective : Bool → ℕ → ℕ → Effective
effective b a n = record { alternate = b; address = a; read = n }

-- the access for it passed, or failed
word_passed :
    (c : Core) (m : List ℕ) (o : MemoryOp) (md : Mode) (k : Tested) (p : Place) (v : List ℕ) (b : Bool) (e : ℕ)
    → Passed k (p ∷ []) 1 v → b ≡ address_rule md → e ≡ after_indirect md (next c.file) (word_at m v p)
    → addressed c m v o (Ok (effective b e 1)) ≡ after_indirect_word c m o md k
unfolding addressed after_indirect_word
word_passed c m o md k p v b e f q h = rw (q, h, f.fault, f.made, ← f.tables, ← f.places) refl

word_failed :
    (c : Core) (m : List ℕ) (o : MemoryOp) (md : Mode) (k : Tested) (x : Fault) (v : List ℕ) → Stopped k x 1 v
    → addressed c m v o (Err x) ≡ after_indirect_word c m o md k
unfolding addressed after_indirect_word
word_failed c m o md k x v f = rw (f.fault, f.made, ← f.tables) refl

module _ (g : File) (m t v : List ℕ) (md : Mode) (r : Rights) (b : Bool) (a : ℕ) (q : b ≡ first_rule md)
    (marks : v ≡ marked t (length m) r (access Indirect b a)) where
  abbrev word : Tested
  word = test_all t (length m) r (access Indirect b a ∷ [])

  -- in a core that executes the instruction
  judged_in : (c : Core) (o : MemoryOp) → Executing c g r
      → after_indirect_word c m o md word
      ≡ after_indirect_word c m o md (test_all t (length m) (rights_of c) (access Indirect (first_rule md) a ∷ []))
  judged_in c o s =
      ap (λ (h : Rights). after_indirect_word c m o md (test_all t (length m) h (access Indirect b a ∷ [])))
      (sym s.rights)
      ∙ ap (λ (h : Bool). after_indirect_word c m o md (test_all t (length m) (rights_of c) (access Indirect h a ∷ [])))
      q

  pub indirect_passed : (p : Place) (i : Bool) (e : ℕ) → Ok p ≡ translate t (length m) r (access Indirect b a)
      → i ≡ address_rule md → e ≡ after_indirect md g (word_at m v p)
      → ByIndirect g r md a m t (Ok (effective i e 1)) v
  indirect_passed p i e z j h =
      let k : Passed word (p ∷ []) 1 v =
      first_passed t (length m) r (access Indirect b a) [] v marks p [] 0 v z (none_passed v (length m) r) in (
        omega arith,
        λ c o s.
            let w : e ≡ after_indirect md (next c.file) (word_at m v p) =
            h ∙ ap (λ (y : File). after_indirect md y (word_at m v p)) (sym s.file) in
            word_passed c m o md word p v i e k j w ∙ judged_in c o s,
      )

  pub indirect_failed : (x : Fault) → Err x ≡ translate t (length m) r (access Indirect b a)
      → ByIndirect g r md a m t (Err x) v
  indirect_failed x z =
      let k : Stopped word x 1 v = first_stopped t (length m) r (access Indirect b a) [] v marks x z in (
        omega arith,
        λ c o s. word_failed c m o md word x v k ∙ judged_in c o s,
      )

-- ---- the effective address

address_at : {c : Core} {f : File} {a : ℕ} {r : Rights} (md : Mode) (d : ℤ)
    → ExecutingAt c f a r → first_at md d f a ≡ first_address md d c.file
address_at {c} {a = a} md d s =
    ap (λ (g : File). first_at md d g a) (sym s.executing.file)
    ∙ ap (λ (b : ℕ). first_at md d (next c.file) b) (sym s.address)
    ∙ first_address_law md d c.file

-- the first address, of a displacement that came through 16 bits
pub first_is : (md : Mode) {d : ℤ} (g : File) (a : ℕ) {x : ℕ} → SFits w16 d
    → x ≡ first_at md (to_z w16 (of_z w16 d)) g a
    → x ≡ first_at md d g a
first_is md {d} g a f e = e ∙ ap (λ (z : ℤ). first_at md z g a) (to_z-of_z w16 d f)

-- a memory operation with the effective address e
at_address :
    (c : Core) (m t : List ℕ) (o : MemoryOp) (md : Mode) (d : ℤ) (i e : ℕ) → e ≡ effective_address md d c.file i
    → requested c m t (request_of o (next c.file)) (address_rule md) e ≡ operands c m t (Memory o md d) i
at_address c m t o md d i e h =
    let g = next c.file in
    let serves = request_serves o g (address_rule md) e in
    requested_is c m t (Memory o md d) i (request_of o g) (address_rule md) e
    ((serves []).0 ∙ ap (memory_request o (address_rule md)) h)
    (λ ws. (serves ws).1 ∙ ap (λ (a : ℕ). memory_completion o g a ws) h)

-- a mode with an indirect word
after_word :
    (c : Core) (m : List ℕ) (o : MemoryOp) (md : Mode) (d : ℤ) (k : Tested) → has_indirect md ≡ true
    → after_indirect_word c m o md k ≡ indirect_tested c m (Memory o md d) k
unfolding indirect_tested after_indirect_word
after_word c m o md d k h =
    let i = get_or (words_at m k.tables k.places) 0 0 in
    ap (λ (p : Part). counted k.made (after_test k.fault p (λ x. failed (next_core c) (Some x) m k.tables)))
    (at_address c m k.tables o md d i (after_indirect md (next c.file) i)
    (sym (simp h at (effective_address_law md d c.file i))))

indirect_stage :
    (c : Core) (m t : List ℕ) (o : MemoryOp) (md : Mode) (d : ℤ) → has_indirect md ≡ true
    → after_indirect_word c m o md
    (test_all t (length m) (rights_of c) (access Indirect (first_rule md) (first_address md d c.file) ∷ []))
    ≡ user_stage c m t (Memory o md d)
unfolding user_stage
indirect_stage c m t o md d h =
    let one : List Access = access Indirect (first_rule md) (first_address md d c.file) ∷ [] in
    let q : indirect_access md d c.file ≡ one = indirect_access_law md d c.file ∙ ap (λ (b : Bool). cond b one []) h in
    after_word c m o md d (test_all t (length m) (rights_of c) one) h
    ∙ ap (λ (xs : List Access). indirect_tested c m (Memory o md d) (test_all t (length m) (rights_of c) xs)) (sym q)

-- an instruction without an indirect word
no_indirect : (c : Core) (m t : List ℕ) (u : User) → indirect_request u c.file ≡ []
    → operands c m t u 0 ≡ user_stage c m t u
unfolding user_stage indirect_tested
no_indirect c m t u h =
    sym (counted_none (operands c m t u 0))
    ∙ ap (λ (xs : List Access). indirect_tested c m u (test_all t (length m) (rights_of c) xs)) (sym h)

direct_stage :
    (c : Core) (m t : List ℕ) (o : MemoryOp) (md : Mode) (d : ℤ) → has_indirect md ≡ false
    → requested c m t (request_of o (next c.file)) (address_rule md) (first_address md d c.file)
    ≡ user_stage c m t (Memory o md d)
direct_stage c m t o md d h =
    at_address c m t o md d 0 (first_address md d c.file) (sym (simp h at (effective_address_law md d c.file 0)))
    ∙ no_indirect c m t (Memory o md d) (simp h at (indirect_access_law md d c.file))

-- what the code found of either in the file g, with the first address x
module _ (g : File) (m t : List ℕ) (a : ℕ) (r : Rights) (md : Mode) (d : ℤ) (x : ℕ) (p : x ≡ first_at md d g a) where
  pub addressed_indirect : (e : Result Effective Fault) (v : List ℕ) → has_indirect md ≡ true
      → ByIndirect g r md x m t e v
      → Addressed g a r md d m t e v
  addressed_indirect e v h f = (
    f.0,
    λ c o s. f.1 c o s.executing
        ∙ ap
        (λ (y : ℕ). after_indirect_word c m o md
        (test_all t (length m) (rights_of c) (access Indirect (first_rule md) y ∷ [])))
        (p ∙ address_at md d s)
        ∙ indirect_stage c m t o md d h,
  )

  pub addressed_direct : (b : Bool) → has_indirect md ≡ false → b ≡ address_rule md
      → Addressed g a r md d m t (Ok (effective b x 0)) t
  unfolding addressed
  addressed_direct b h q = (
    omega arith,
    λ c o s.
        let asked = request_of o (next c.file) in
        counted_none (requested c m t asked b x)
        ∙ ap (λ (y : Bool). requested c m t asked y x) q
        ∙ ap (requested c m t asked (address_rule md)) (p ∙ address_at md d s)
        ∙ direct_stage c m t o md d h,
  )

-- LBYT and SBYT, whose address P has no part in
module _ (g : File) (m t : List ℕ) (at : ℕ) (r : Rights) {x : Location} (p : x ≡ byte_location r g) (z : Ending)
    (m' t' : List ℕ) {u : User} where
  byte_served : (v : User) (q : Request) → u ≡ v
      → ((f : File) → accesses_of q true (byte_address f) ≡ request v f 0)
      → ((f : File) (vs : List ℕ) → completion_of q (next f) (byte_address f) vs ≡ complete v f 0 vs)
      → ((f : File) → indirect_request v f ≡ []) → Served g q x m t z m' t'
      → UserStage g at r u m t z m' t'
  byte_served v q e i h n f l c s =
      let b = c.file in
      (subst (λ (y : Location). Served g q y m t z m' t') p f).part l c s.executing
      ∙ ap (λ (y : File). requested c m t q true (byte_address y)) (sym s.executing.file)
      ∙ requested_is c m t v 0 q true (byte_address b) (i b) (h b)
      ∙ no_indirect c m t v (n b)
      ∙ ap (user_stage c m t) (sym e)

  pub byte_read : u ≡ LoadByte → Served g (Read Byte) x m t z m' t' → UserStage g at r u m t z m' t'
  byte_read e = byte_served LoadByte (Read Byte) e (λ f. refl) (λ f vs. refl) (λ f. refl)

  pub byte_put : u ≡ StoreByte → Served g (Update PutByte) x m t z m' t' → UserStage g at r u m t z m' t'
  byte_put e = byte_served StoreByte (Update PutByte) e (λ f. refl) (λ f vs. refl) (λ f. refl)

-- an instruction that is none of the three makes no access
module _ (c : Core) (m t : List ℕ) where
  registers_alone : (u : User) → ((o : MemoryOp) (md : Mode) (d : ℤ) → u ≡ Memory o md d → ⊥) → (u ≡ LoadByte → ⊥)
      → (u ≡ StoreByte → ⊥)
      → counted 0 (counted 0 (finished c m t [] (register_completion u (next c.file) (reg c.file P))))
      ≡ user_stage c m t u
  unfolding user_stage indirect_tested operands operands_tested
  registers_alone (Memory o md d) h i j = absurd (h o md d refl)
  registers_alone (Jump k d) h i j = refl
  registers_alone (Skip q s d) h i j = refl
  registers_alone (Logic o cld cm1 s d) h i j = refl
  registers_alone (RegisterAdd k cld cm1 s d) h i j =
      ap (λ (k : Completed). counted 0 (counted 0 (finished c m t [] k)))
      (register_completion_law (RegisterAdd k cld cm1 s d) c.file 0 [] tt)
  registers_alone NoOperation h i j = refl
  registers_alone (Shift k q n) h i j = refl
  registers_alone (SetArgument q n) h i j = refl
  registers_alone (AddArgument q n) h i j =
      ap (λ (k : Completed). counted 0 (counted 0 (finished c m t [] k)))
      (register_completion_law (AddArgument q n) c.file 0 [] tt)
  registers_alone (Bit o n q) h i j = refl
  registers_alone LoadByte h i j = absurd (i refl)
  registers_alone StoreByte h i j = absurd (j refl)
  registers_alone Mix3 h i j = refl
  registers_alone (Multiply s d) h i j = refl
  registers_alone (Divide s) h i j = refl

-- ---- an ending

-- the file is left as it is
pub file_left : {c : Core} {f : File} {r : Rights} (l : ℕ) (m t : List ℕ) {z : Ending} {n : ℕ} {e : Option Event}
    → Executing c f r → z ≡ record { references = n; event = e; file = f }
    → ended_part l c z m t ≡ counted n (event_part l (next_core c) m t (by_privilege (privileged c) e))
file_left {c} l m t {n = n} {e = e} s q =
    ap (λ (y : Ending). ended_part l c y m t) q
    ∙ ap (λ (g : File). counted n (event_part l (with_file c g) m t (by_privilege (privileged c) e))) (sym s.file)

-- the references before a request, and its own
after_references_law : (l : ℕ) (c : Core) (m t : List ℕ) (n : ℕ) (e : Ending)
    → ended_part l c (after_references n e) m t ≡ counted n (ended_part l c e m t)
after_references_law l c m t n e =
    sym (counted_twice n e.references (event_part l (with_file c e.file) m t (by_privilege (privileged c) e.event)))

-- an instruction that stores nothing ends with the error interrupt or well
completed_part : (l : ℕ) (c : Core) (m t : List ℕ) (d : Completed)
    → ended_part l c (ending_of d) m t ≡ finished c m t [] d
unfolding event_part by_privilege finished
completed_part l c m t d =
    counted_none (event_part l (with_file c d.file) m t (by_privilege (privileged c) (cond d.error (Some Error) None)))
    ∙ go d.error
  where
    go : (b : Bool) → event_part l (with_file c d.file) m t (by_privilege (privileged c) (cond b (Some Error) None))
        ≡ finished c m t [] (record { file = d.file; stores = d.stores; error = b })
    go true = refl
    go false = refl

none_twice : (p : Part) → counted 0 (counted 0 p) ≡ p
none_twice p = counted_none (counted 0 p) ∙ counted_none p

-- what the code found of an instruction that works on the registers alone
pub register_served : (f : File) (m t : List ℕ) (a : ℕ) (r : Rights) (u : User) (z : Ending)
    → ((o : MemoryOp) (md : Mode) (d : ℤ) → u ≡ Memory o md d → ⊥) → (u ≡ LoadByte → ⊥) → (u ≡ StoreByte → ⊥)
    → z ≡ ending_of (register_completion u f a) → UserStage f a r u m t z m t
register_served f m t a r u z h i j q l c s =
    ap (λ (y : Ending). ended_part l c y m t) q
    ∙ completed_part l c m t (register_completion u f a)
    ∙ ap (λ (y : File). finished c m t [] (register_completion u y a)) (sym s.executing.file)
    ∙ ap (λ (y : ℕ). finished c m t [] (register_completion u (next c.file) y)) (sym s.address)
    ∙ sym (none_twice (finished c m t [] (register_completion u (next c.file) (reg c.file P))))
    ∙ registers_alone c m t u h i j

-- a memory operation at its effective address, or where the access for the indirect word failed
module _ (f : File) (m t : List ℕ) (a : ℕ) (r : Rights) (o : MemoryOp) (md : Mode) (d : ℤ) (x : Result Effective Fault)
    (v : List ℕ) (h : Addressed f a r md d m t x v) (z : Ending) where
  pub memory_at : (e : Effective) (w : Ending) (m' t' : List ℕ) {q : Request} → x ≡ Ok e → q ≡ request_of o f
      → Served f q (record { rights = r; alternate = e.alternate; address = e.address }) m v w m' t'
      → z ≡ after_references e.read w → UserStage f a r (Memory o md d) m t z m' t'
  unfolding addressed
  memory_at e w m' t' {q} i p k j l c s =
      ap (λ (y : Ending). ended_part l c y m' t') j
      ∙ after_references_law l c m' t' e.read w
      ∙ ap (counted e.read) (k.part l c s.executing)
      ∙ ap (λ (q : Request). counted e.read (requested c m v q e.alternate e.address))
      (p ∙ ap (request_of o) (sym s.executing.file))
      ∙ ap (addressed c m v o) (sym i)
      ∙ h.1 c o s

  pub memory_failed : (y : Fault) → x ≡ Err y → z ≡ record { references = 1; event = Some (Faulted (Some y)); file = f }
      → UserStage f a r (Memory o md d) m t z m v
  unfolding addressed event_part by_privilege
  memory_failed y q n l c s = file_left l m v s.executing n ∙ ap (addressed c m v o) (sym q) ∙ h.1 c o s

-- ---- the fetch

-- by the rights r, the address a names the word p of memory by way of the entry e
pub record FoundBy (r : Rights) (e : Entry) (a p : ℕ) : Type 0 where
  pub outside : in_window r a ≡ false
  pub permitted : e.fetch ≡ true
  pub allowed : e.ring ≤ r.ring
  pub place : p ≡ physical e a

-- .. if the access passed to a place in memory to load from
abbrev pub FetchBy : Rights → Entry → ℕ → Result Place Fault → Type 0
FetchBy r e a (Ok (Load p)) = FoundBy r e a p
FetchBy r e a (Ok (Store p)) = Unit {0}
FetchBy r e a (Ok (LoadTable i)) = Unit {0}
FetchBy r e a (Ok (StoreTable i)) = Unit {0}
FetchBy r e a (Err f) = Unit {0}

judged_found : (r : Rights) (e : Entry) (slot words a : ℕ) → in_window r a ≡ false
    → FetchBy r e a (judged e slot words r.ring Fetch a)
unfolding judged within_memory
judged_found r e slot words a out =
    let P = FetchBy r e a in
    either P (not (some_permit e)) tt
    (decided P (not (needed e Fetch)) (λ n. tt)
    (λ n. decided P (not (ring_allows e r.ring)) (λ z. tt)
    (λ z.
    either P (ltb (physical e a) words)
    (record {
      outside = out;
      permitted = not-false (needed e Fetch) n;
      allowed = leb-true e.ring r.ring (not-false (ring_allows e r.ring) z);
      place = refl;
    })
    tt)))

-- so a passed fetch with paging on
pub fetch_found : (t : List ℕ) (words : ℕ) (r : Rights) (a : ℕ) → r.paging ≡ true
    → FetchBy r (entry_at r.extended t (slot_of r.normal a)) a (translate t words r (access Fetch false a))
unfolding translate
fetch_found t words r a h =
    let i = slot_of r.normal a in
    let e = entry_at r.extended t i in
    let P = FetchBy r e a in
    decided P (in_window r a) (λ q. tt)
    (λ q.
    subst (λ (b : Bool). P (cond b (judged e i words r.ring Fetch a) (within_memory words Fetch a)))
    (sym h)
    (judged_found r e i words a q))

-- the PCR after a fetch from memory with paging on
lowered_ring : (f : File) (p : ℕ) (k : Control) (ring : ℕ) → ring ≤ ring_of p
    → lowered (level_core f p k) ring ≡ level_core f (lowered_pcr p ring) k
unfolding lowered
lowered_ring f p k ring h =
    decided (λ (c : Core). c ≡ level_core f (lowered_pcr p ring) k) (ltb ring (ring_of p)) (λ q. refl) same
  where
    same : ltb ring (ring_of p) ≡ false → level_core f p k ≡ level_core f (lowered_pcr p ring) k
    same q =
        let e : p ≡ lowered_pcr p ring = omega (arith, h, ltb-false ring (ring_of p) q) in
        ap (λ (y : ℕ). level_core f y k) e

-- what the code makes of the ring is what the definition makes of the PCR
pub ring_is : (f : File) (p : ℕ) (k : Control) (t : List ℕ) (words a : ℕ) {r : Rights} {x : Place} {ring : ℕ}
    → level_rights p k.paging k.extended ≡ r → Ok x ≡ translate t words r (access Fetch false a)
    → ring ≡ (entry_at r.extended t (slot_of r.normal a)).ring
    → after_fetch (level_core f p k) ring x ≡ level_core f (lowered_pcr p (ring_after r ring x)) k
ring_is f p k t words a {r} {x} {ring} e q h =
    subst
    (λ (y : Rights). after_fetch (level_core f p k) ring x ≡ level_core f (lowered_pcr p (ring_after y ring x)) k)
    e
    (go (eqb k.paging 1) refl x refl)
  where
    -- a fetch from memory passed by way of an entry of a ring that is not above the user's
    below : eqb k.paging 1 ≡ true → (i : ℕ) → x ≡ Load i → ring ≤ ring_of p
    below z i n =
        let entry : Entry = entry_at r.extended t (slot_of r.normal a) in
        let on : r.paging ≡ true = ap (λ (y : Rights). y.paging) (sym e) ∙ z in
        let by : FoundBy r entry a i =
        subst (FetchBy r entry a) (sym q ∙ ap passed n) (fetch_found t words r a on) in
        rw h (subst (λ (y : Rights). entry.ring ≤ y.ring) (sym e) by.allowed)

    own : (b : Bool) → level_core f p k ≡ level_core f (lowered_pcr p (cond b (ring_of p) (ring_of p))) k
    own b = either (λ (y : ℕ). level_core f p k ≡ level_core f (lowered_pcr p y) k) b same same
      where
        same : level_core f p k ≡ level_core f (lowered_pcr p (ring_of p)) k
        same = ap (λ (y : ℕ). level_core f y k) (sym (same_ring p))

    go : (b : Bool) → eqb k.paging 1 ≡ b → (y : Place)
        → x ≡ y
        → after_fetch (level_core f p k) ring y
        ≡ level_core f (lowered_pcr p (ring_after (level_rights p k.paging k.extended) ring y)) k
    go true z (Load i) n = rw z (lowered_ring f p k ring (below z i n))
    go false z (Load i) n = rw z (own false)
    go b z (Store i) n = own (eqb k.paging 1)
    go b z (LoadTable i) n = own (eqb k.paging 1)
    go b z (StoreTable i) n = own (eqb k.paging 1)

-- two bits hold the ring after a fetch
pub ring_small : (t : List ℕ) (a : ℕ) (r : Rights) (x : Place) {ring : ℕ} → r.ring < 4
    → ring ≡ (entry_at r.extended t (slot_of r.normal a)).ring → ring_after r ring x < 4
ring_small t a r x {ring} h e = either (λ (n : ℕ). n < 4) r.paging (go x) h
  where
    entry : ring < 4
    entry = rw e (omega arith)

    go : (y : Place) → ring_from r.ring ring y < 4
    go (Load i) = entry
    go (Store i) = h
    go (LoadTable i) = h
    go (StoreTable i) = h
