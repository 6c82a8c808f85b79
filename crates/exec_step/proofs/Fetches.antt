-- The kept page: what a fetch finds by it, what a fetch leaves to keep, and that an instruction leaves it kept.
-- Assumes nothing.
use Prim.Native.Nat.{ℕ, ◌+◌, ◌-◌, ◌*◌, ◌/◌, ◌%◌, ◌<◌, ◌≤◌}
use native.Mathlib.Omega.{arith}
use mathlib.Core.Path.{◌≡◌, refl, ap, sym, subst, ◌∙◌}
use mathlib.Core.Bool.{Bool, true, false, cond, not, ◌&&◌}
use mathlib.Core.List.{List}
use lib.ListN.{length}
use lib.Dec.{leb, ltb, eqb}
use borrow.Author.Tests.{leb-true, ltb-true}
use Rattle.std.specs.declared.option.Option.{Option}
use Rattle.std.specs.declared.option.Option.TheVariants.{None, Some}
use Rattle.isa.specs.Machine.{ring_of, normal_table_of, alternate_table_of, table_words, slot_count, flag_of, next, reg}
use Rattle.isa.specs.System.{with_extended}
use Rattle.isa.specs.Address.{access}
use Rattle.isa.specs.Cases.{quiet}
use Rattle.isa.specs.Decode.{decode}
use Rattle.isa.specs.Pages.{Entry, entry_at, first_word, slot_of, physical, in_window, translate, with_mark, marked, passes}
use Rattle.isa.specs.Pages.{rights_of}
use Rattle.isa.specs.Step.{Part, executed, instruction_stage}
use Rattle.isa.specs.declared.access.AccessKind.TheVariants.{Fetch as ToFetch}
use Rattle.isa.specs.declared.access.Rights.{Rights}
use Rattle.std.specs.declared.result.Result.TheVariants.{Ok}
use Rattle.isa.specs.declared.access.Place.{Place}
use Rattle.isa.specs.declared.access.Place.TheVariants.{Load, Store, LoadTable, StoreTable}
use Rattle.isa.specs.declared.instruction.Instruction.{Instruction}
use Rattle.isa.specs.declared.instruction.Instruction.TheVariants as instructions
use Rattle.isa.specs.declared.instruction.System.{System}
use Rattle.isa.specs.declared.machine.Control.{Control}
use Rattle.isa.specs.declared.machine.Core.{Core}
use Rattle.isa.specs.declared.machine.File.{File}
use Rattle.isa.specs.declared.machine.Register.TheVariants.{P}
use Rattle.isa.proofs.Marks.{Marked, same_entry, mark_keeps, set_by_mark, pgu_stays, marked_already}
use Rattle.isa.proofs.Permits.{judged_passes}
use Rattle.isa.proofs.Tables.{Lasting, marked_keeps, user_keeps}
use Rattle.isa.proofs.Tests.{either, decided, no_both, and_both, and_left, and_right}
use Rattle.isa.proofs.Window.{no_window}
use Rattle.paging.specs.Levels.{level_rights, on_ring}
use Rattle.paging.proofs.Laws.{passed}
use Rattle.event.specs.Events.{event_part, is_fine, by_privilege}
use Rattle.event.specs.declared.Ending.{Ending}
use Rattle.event.specs.declared.Event.{Event}
use Rattle.event.specs.declared.Event.TheVariants.{Failed, Error, Privileged, NotPrivileged, Monitor, Illegal}
use Rattle.exec_memory.specs.Stages.{level_core, ring_after}
use Rattle.exec_memory.proofs.Stages.{FoundBy, FetchBy, fetch_found}
use Rattle.exec_step.specs.Fetches.{Rests, Kept, no_page, page_at, page_of, page_after}
use Rattle.exec_step.specs.Steps.{unprivileged, FineAlone, followed, ExecutedWord}
use Rattle.exec_step.specs.declared.fetch.Page.{Page}
use Rattle.exec_step.proofs.Steps.{executed_followed}

-- none is kept
pub none_kept : (words : ℕ) (r : Rights) (k : Page) (t : List ℕ) → k ≡ no_page → Kept words r k t
none_kept words r k t e h =
    let number : k.number ≡ 64 = ap (λ (p : Page). p.number) e in
    absurd (let none : ⊥ = omega (arith, h, number) in none)

-- ---- a fetch from the kept page

module _ {words : ℕ} {r : Rights} {k : Page} {t : List ℕ} (h : Rests words r k t) (a : ℕ)
    (same-page : a / 1024 ≡ k.number) (low : k.number < 64)
  where
    slot : slot_of r.normal a ≡ r.normal * 64 + k.number
    slot = omega (arith, same-page, low)

    abbrev entry : Entry
    entry = entry_at r.extended t (slot_of r.normal a)

    -- what the kept page rests on, of the entry of the address
    at_slot : (K : Entry → Type 0) → K (entry_at r.extended t (r.normal * 64 + k.number)) → K entry
    at_slot K = subst (λ (i : ℕ). K (entry_at r.extended t i)) (sym slot)

    place : k.base + a % 1024 ≡ physical entry a
    place = at_slot (λ (e : Entry). k.base + a % 1024 ≡ physical e a) (ap (λ (n : ℕ). n + a % 1024) h.base)

    pub kept_within : k.base + a % 1024 < words
    kept_within = omega (arith, h.within)

    -- it passes
    pub kept_place : Ok (Load (k.base + a % 1024)) ≡ translate t words r (access ToFetch false a)
    unfolding translate
    kept_place =
        let ring : entry.ring ≤ r.ring = at_slot (λ (e : Entry). e.ring ≤ r.ring) (omega (arith, h.own)) in
        let within : physical entry a < words = subst (λ (n : ℕ). n < words) place kept_within in
        rw (no_window r a h.paging_on h.low, h.paging_on)
        (ap (λ (n : ℕ). passed (Load n)) place
        ∙ sym (judged_passes entry (slot_of r.normal a) words r.ring a
        (at_slot (λ (e : Entry). e.fetch ≡ true) h.permitted) ring within))

    -- .. marks nothing
    pub kept_marks : t ≡ marked t words r (access ToFetch false a)
    unfolding marked
    kept_marks =
        either (λ (v : List ℕ). t ≡ v)
        (r.paging && not (in_window r a) && passes (translate t words r (access ToFetch false a)))
        (sym (marked_already r.extended t (slot_of r.normal a)
        (at_slot (λ (e : Entry). e.pgu ≡ true) h.marked)))
        refl

    -- .. and lowers nothing
    pub kept_ring : (p : ℕ) → r.ring ≡ ring_after r entry.ring (Load p)
    kept_ring p = rw h.paging_on (sym (at_slot (λ (e : Entry). e.ring ≡ r.ring) h.own))

-- ---- what a fetch leaves to keep

-- the first word of every entry is in the tables
first_inside : (form : Bool) (i : ℕ) → i < slot_count → first_word form i < table_words
first_inside true i h = omega arith
first_inside false i h = omega arith

module _ (words : ℕ) (r : Rights) (a : ℕ) (t : List ℕ) (normal : r.normal < 4) (long : length t ≡ table_words) where
  abbrev i : ℕ
  i = slot_of r.normal a

  abbrev v : List ℕ
  v = marked t words r (access ToFetch false a)

  -- the entry before the fetch
  abbrev own_entry : Entry
  own_entry = entry_at r.extended t i

  -- a fetch from memory with paging on has marked its entry
  fetch_marks : (p : ℕ) → r.paging ≡ true → in_window r a ≡ false
      → Ok (Load p) ≡ translate t words r (access ToFetch false a) → (entry_at r.extended v i).pgu ≡ true
  unfolding marked
  fetch_marks p on out x =
      let slot : i < slot_count = omega (arith, normal) in
      let at : first_word r.extended i < length t = rw long (first_inside r.extended i slot) in
      let due : (r.paging && not (in_window r a) && passes (translate t words r (access ToFetch false a))) ≡ true =
      and_both (and_both on (ap not out)) (ap passes (sym x)) in
      ap (λ (b : Bool). (entry_at r.extended (cond b (with_mark r.extended t i ToFetch) t) i).pgu) due
      ∙ set_by_mark r.extended t i ToFetch at

  -- the page of a fetch from memory, if it is whole
  page_rests : (p : ℕ) → r.paging ≡ true → own_entry.ring < 3
      → Ok (Load p) ≡ translate t words r (access ToFetch false a)
      → Kept words (on_ring r own_entry.ring) (page_at words a p) v
  page_rests p on low x =
      decided (λ (k : Page). Kept words (on_ring r own_entry.ring) k v) (leb 1024 (words - p / 1024 * 1024))
      (λ whole n.
      let slot : r.normal * 64 + a / 1024 ≡ i = omega (arith, n) in
      let same = marked_keeps (λ (y : List ℕ). Marked r.extended y t) r (mark_keeps r.extended t) t words
      (access ToFetch false a)
      (λ j. same_entry (entry_at r.extended t j)) i in
      let base : p / 1024 * 1024 ≡ (entry_at r.extended v i).page * 1024 =
      rw (by.place, same.page) (omega arith) in
      let room : 1024 ≤ words - p / 1024 * 1024 = leb-true 1024 (words - p / 1024 * 1024) whole in
      record {
        paging_on = on;
        low = low;
        permitted = rw slot (same.fetch ∙ by.permitted);
        marked = rw slot (fetch_marks p on by.outside x);
        own = rw slot same.ring;
        base = rw slot base;
        within = omega (arith, room);
      })
      (λ part. none_kept words (on_ring r own_entry.ring) no_page v refl)
    where
      by : FoundBy r own_entry a p
      by = subst (FetchBy r own_entry a) (sym x) (fetch_found t words r a on)

  -- the ring q is that of the rights that the fetch left
  pub page_kept : (x : Place) (q : ℕ) → Ok x ≡ translate t words r (access ToFetch false a)
      → q ≡ ring_after r own_entry.ring x → Kept words (on_ring r q) (page_after words (on_ring r q) a x) v
  page_kept x q e s =
      decided (λ (k : Page). Kept words (on_ring r q) k v) (r.paging && ltb q 3)
      (λ b. go (and_left r.paging (ltb q 3) b) (ltb-true q 3 (and_right r.paging (ltb q 3) b)) x e s)
      (λ b. none_kept words (on_ring r q) no_page v refl)
    where
      go : r.paging ≡ true → q < 3 → (y : Place) → Ok y ≡ translate t words r (access ToFetch false a)
          → q ≡ ring_after r own_entry.ring y → Kept words (on_ring r q) (page_of words a y) v
      go on low (Load p) e s =
          let own : q ≡ own_entry.ring = s ∙ ap (λ (b : Bool). cond b own_entry.ring r.ring) on in
          rw own (page_rests p on (subst (λ (n : ℕ). n < 3) own low) e)
      go on low (Store p) e s = none_kept words (on_ring r q) no_page v refl
      go on low (LoadTable j) e s = none_kept words (on_ring r q) no_page v refl
      go on low (StoreTable j) e s = none_kept words (on_ring r q) no_page v refl

-- ---- an instruction on such a ring

-- marks leave what a kept page rests on
rests_lasts : (words : ℕ) (r : Rights) (k : Page) → Lasting r.extended (Rests words r k)
rests_lasts words r k t i kind h =
    let j = r.normal * 64 + k.number in
    let form = r.extended in
    let same = mark_keeps form t t i kind (λ x. same_entry (entry_at form t x)) j in
    record {
      paging_on = h.paging_on;
      low = h.low;
      permitted = same.fetch ∙ h.permitted;
      marked = pgu_stays form j t i kind h.marked;
      own = same.ring ∙ h.own;
      base = h.base ∙ ap (λ (n : ℕ). n * 1024) (sym same.page);
      within = h.within;
    }

-- an instruction that ends fine has left the tables as they are afterwards
fine_tables : (l : ℕ) (c : Core) (m t : List ℕ) (b : Bool) (e : Option Event) → is_fine e ≡ true
    → (event_part l c m t (by_privilege b e)).tables ≡ t
unfolding event_part by_privilege
fine_tables l c m t b None h = refl
fine_tables l c m t b (Some e) h = absurd (no_both h)

-- privilege changes nothing for a test that takes NotPrivileged as it takes a privileged instruction
pub privilege_alike : (test : Option Event → Bool)
    → ((q : System) → test (Some NotPrivileged) ≡ test (Some (Privileged q)))
    → (b : Bool) (e : Option Event) → test (by_privilege b e) ≡ test e
unfolding by_privilege
privilege_alike test h b None = refl
privilege_alike test h b (Some (Failed x)) = refl
privilege_alike test h b (Some Error) = refl
privilege_alike test h true (Some (Privileged q)) = refl
privilege_alike test h false (Some (Privileged q)) = h q
privilege_alike test h b (Some NotPrivileged) = refl
privilege_alike test h b (Some (Monitor n)) = refl
privilege_alike test h b (Some Illegal) = refl

-- .. so it makes no event fine
pub fine_before : (b : Bool) (e : Option Event) → is_fine (by_privilege b e) ≡ true → is_fine e ≡ true
fine_before b e h = sym (privilege_alike is_fine (λ q. refl) b e) ∙ h

-- a PCR with the rights r
abbrev pcr_with : Rights → ℕ
pcr_with r = r.normal * 512 + r.alternate * 128 + r.ring

flag_extended : (b : Bool) → eqb (flag_of b) 1 ≡ b
flag_extended true = refl
flag_extended false = refl

with_rights : (r : Rights) → r.paging ≡ true → r.ring < 4 → (r.normal < 4) × (r.alternate < 4)
    → level_rights (pcr_with r) 1 (flag_of r.extended) ≡ r
with_rights r on low h =
    let ring : ring_of (pcr_with r) ≡ r.ring = omega (arith, low) in
    let tables : pcr_with r / 128 ≡ r.normal * 4 + r.alternate = omega (arith, low) in
    let high : pcr_with r / 512 ≡ r.normal = omega (arith, low, h.1) in
    let small : r.normal % 4 ≡ r.normal = omega (arith, h.0) in
    let normal : normal_table_of (pcr_with r) ≡ r.normal = ap (λ (n : ℕ). n % 4) high ∙ small in
    let low_digit : (r.normal * 4 + r.alternate) % 4 ≡ r.alternate = omega (arith, h.1) in
    let alternate : alternate_table_of (pcr_with r) ≡ r.alternate = ap (λ (n : ℕ). n % 4) tables ∙ low_digit in
    λ i. record {
      paging = sym on i;
      extended = flag_extended r.extended i;
      ring = ring i;
      normal = normal i;
      alternate = alternate i;
    }

-- an unprivileged instruction keeps what marks keep
unprivileged_keeps : (K : List ℕ → Type 0) (c : Core) → Lasting (rights_of c).extended K → c.control.paging ≡ 1
    → ring_of c.pcr < 3 → (m t : List ℕ) (i : Instruction) → unprivileged i ≡ true → K t
    → K (instruction_stage 0 c m t i).tables
unfolding instruction_stage
unprivileged_keeps K c mark on low m t (instructions.Unprivileged u) h rests = user_keeps K c mark on low m t u rests
unprivileged_keeps K c mark on low m t (instructions.Privileged q) h rests = absurd (no_both h)
unprivileged_keeps K c mark on low m t (instructions.Execute s) h rests = absurd (no_both h)
unprivileged_keeps K c mark on low m t (instructions.Monitor n) h rests = absurd (no_both h)
unprivileged_keeps K c mark on low m t instructions.Illegal h rests = absurd (no_both h)

-- a word that was executed and ended fine leaves the page kept
pub word_keeps : (words : ℕ) (f : File) (r : Rights) (k : Page) (w : ℕ) (m t : List ℕ) (e : Ending) (m' t' : List ℕ)
    → (r.normal < 4) × (r.alternate < 4) → ExecutedWord (next f) (reg f P) r w m t e m' t'
    → FineAlone (decode (followed (next f) w)) e → is_fine e.event ≡ true → Kept words r k t
    → Kept words r k t'
word_keeps words f r k w m t e m' t' tables d alone fine h n =
    let rests = h n in
    let control : Control = with_extended (quiet 1) (flag_of r.extended) in
    let c : Core = level_core f (pcr_with r) control in
    let rights : level_rights (pcr_with r) 1 (flag_of r.extended) ≡ r =
    with_rights r rests.paging_on (omega (arith, rests.low)) tables in
    let low : ring_of (pcr_with r) < 3 = rw (ap (λ (y : Rights). y.ring) rights) rests.low in
    let i : Instruction = executed f (decode w) in
    let level : unprivileged i ≡ true =
    subst (λ (y : Instruction). unprivileged y ≡ true) (executed_followed f w) (alone fine) in
    let lasts : Lasting (rights_of c).extended (Rests words r k) =
    subst (λ (form : Bool). Lasting form (Rests words r k)) (sym (flag_extended r.extended))
    (rests_lasts words r k) in
    let left : (instruction_stage 0 c m t i).tables ≡ t' =
    ap (λ (p : Part). p.tables) (sym (d 0 (pcr_with r) f control refl refl rights))
    ∙ fine_tables 0 _ m' t' _ e.event fine in
    subst (Rests words r k) left (unprivileged_keeps (Rests words r k) c lasts refl low m t i level rests)
