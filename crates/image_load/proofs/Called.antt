-- What load may store, and what it answers.
-- Assumes nothing.
use Rattle.isa.specs.Machine.{table_words, register_words, control_count}
use Rattle.isa.specs.Devices.{device_count}
use Prim.Native.Nat.{ℕ, ◌+◌, ◌*◌, ◌≤◌}
use mathlib.Core.Path.{◌≡◌, refl, sym, ap, subst, ◌∙◌}
use mathlib.Core.Bool.{Bool, true, false, cond, not}
use mathlib.Core.List.{List, [], ◌∷◌}
use native.Mathlib.Omega.{arith}
use lib.ListN.{length, length-drop}
use lib.Dec.{eqb}
use borrow.Author.Tests.{eqb-true}
use Rattle.std.specs.declared.result.Result.TheVariants.{Ok, Err}
use Rattle.isa.specs.Machine.{sizes_fit, in_range}
use Rattle.isa.specs.Images.{ImageEntry, entry_count, contents, bodies, contents_fit, size_of}
use Rattle.isa.specs.Images.{kind_memory, kind_registers, kind_control, kind_tables, kind_devices}
use Rattle.isa.specs.Images.{entries_answer, named_words, loaded_state}
use Rattle.isa.specs.Answers.{Answer, load_answer, bodies_answer}
use Rattle.isa.specs.declared.machine.State.{State}
use Rattle.isa.specs.declared.answer.Refusal.TheVariants.{Sizes, State as StateRange, Contents, Bodies}
use Rattle.checks.proofs.Passed.{tables_all}
use Rattle.image_directory.specs.Listing.{body_answer, list_answer}
use Rattle.image_directory.proofs.Entries.{contents_some, contents_whole}
use Rattle.image_directory.proofs.Listed.{entry_passed}
use Rattle.image_load.specs.Placing.{Inside, Placeable}
use Rattle.image_load.specs.Loading.{state_by}

-- ---- what may be stored

entries_inside : (words k : ℕ) (seen es : List ImageEntry) → entries_answer words seen es ≡ Ok tt
    → Inside k (size_of words k) es
entries_inside words k seen [] p = tt
entries_inside words k seen (e ∷ es) p =
    let q = entry_passed words seen e es p in (
      λ z. subst (λ (x : ℕ). e.start + e.count ≤ size_of words x) z q.0,
      entries_inside words k (e ∷ seen) es q.1,
    )

module _ (words : ℕ) (i : List ℕ) (c : contents_fit i ≡ true) (p : list_answer words i ≡ Ok tt) where
  entries_pass : (entries_answer words [] (contents i) ≡ Ok tt) × (named_words (contents i) ≡ length (bodies i))
  unfolding list_answer
  entries_pass = go (entries_answer words [] (contents i)) p
    where
      same : (b : Bool) → eqb (named_words (contents i)) (length (bodies i)) ≡ b
          → ◌≡◌ {A = Answer} (cond (not b) (Err Bodies) (Ok tt)) (Ok tt)
          → named_words (contents i) ≡ length (bodies i)
      same true e d = eqb-true (named_words (contents i)) (length (bodies i)) e
      same false e d = cc

      go : (x : Answer) → body_answer i x ≡ Ok tt → (x ≡ Ok tt) × (named_words (contents i) ≡ length (bodies i))
      go (Ok _) d = (refl, same (eqb (named_words (contents i)) (length (bodies i))) refl d)
      go (Err r) d = cc

  placeable : (k : ℕ) → Placeable k (size_of words k) i
  placeable k =
      let w = contents_whole i c in
      let b = entries_pass.1 ∙ length-drop (1 + entry_count i * 5) i in
      record {
        some = contents_some i c;
        whole = w;
        inside = entries_inside words k [] (contents i) entries_pass.0;
        all = omega (arith, w, b);
      }

  pub registers_placeable : Placeable kind_registers register_words i
  registers_placeable = placeable kind_registers

  pub control_placeable : Placeable kind_control control_count i
  control_placeable = placeable kind_control

  pub devices_placeable : Placeable kind_devices device_count i
  devices_placeable = placeable kind_devices

  memory_placeable : Placeable kind_memory words i
  memory_placeable = placeable kind_memory

  tables_placeable : Placeable kind_tables table_words i
  tables_placeable = placeable kind_tables

-- ---- the answer

-- refusal 2, where 4 to 8 are passed
abbrev pub range_answer : List ℕ → Answer → Answer
range_answer i (Ok _) = cond (not (in_range (loaded_state i))) (Err StateRange) (Ok tt)
range_answer i (Err r) = Err r

pub load_tests : (i m t : List ℕ) → load_answer i m t
    ≡ cond (not (sizes_fit m t)) (Err Sizes)
    (cond (not (contents_fit i)) (Err Contents) (range_answer i (list_answer (length m) i)))
unfolding load_answer list_answer
load_tests i m t =
    ap (λ (x : Answer). cond (not (sizes_fit m t)) (Err Sizes) (cond (not (contents_fit i)) (Err Contents) x))
    (go (entries_answer (length m) [] (contents i)))
  where
    last : (d : Bool)
        → cond (not d) (Err Bodies) (range_answer i (Ok tt)) ≡ range_answer i (cond (not d) (Err Bodies) (Ok tt))
    last true = refl
    last false = refl

    go : (x : Answer) → bodies_answer i x ≡ range_answer i (body_answer i x)
    go (Ok _) = last (eqb (named_words (contents i)) (length (bodies i)))
    go (Err r) = refl

-- what is known of an image whose state was made
module _ (i m t : List ℕ) (s : State) (h : Ok s ≡ state_by (load_answer i m t) (loaded_state i)) where
  pub loaded_is : (load_answer i m t ≡ Ok tt) × (s ≡ loaded_state i)
  loaded_is = go (load_answer i m t) h
    where
      go : (x : Answer) → Ok s ≡ state_by x (loaded_state i) → (x ≡ Ok tt) × (s ≡ loaded_state i)
      go (Ok _) e = (refl, cc)
      go (Err r) e = cc

  passed : (sizes_fit m t ≡ true) × ((contents_fit i ≡ true) × (list_answer (length m) i ≡ Ok tt))
  passed =
      go (sizes_fit m t) (contents_fit i) (list_answer (length m) i) (sym (load_tests i m t) ∙ loaded_is.0)
    where
      go : (a b : Bool) (x : Answer)
          → ◌≡◌ {A = Answer} (cond (not a) (Err Sizes) (cond (not b) (Err Contents) (range_answer i x))) (Ok tt)
          → (a ≡ true) × ((b ≡ true) × (x ≡ Ok tt))
      go true true (Ok _) e = (refl, (refl, refl))
      go true true (Err r) e = cc
      go true false x e = cc
      go false b x e = cc

  pub memory_lies : Placeable kind_memory (length m) i
  memory_lies = memory_placeable (length m) i passed.1.0 passed.1.1

  pub tables_are : length t ≡ table_words
  tables_are = tables_all m t passed.0

  pub tables_lie : Placeable kind_tables (length t) i
  tables_lie =
      subst (λ (n : ℕ). Placeable kind_tables n i) (sym tables_are)
      (tables_placeable (length m) i passed.1.0 passed.1.1)
