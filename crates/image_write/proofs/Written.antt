-- The image's words one after the other, and what write answers.
-- Assumes nothing.
use Rattle.isa.specs.Machine.{first_device, largest_memory, table_words}
use Rattle.isa.specs.Devices.{device_count, device_words}
use Prim.Native.Nat.{ℕ, ◌+◌, ◌≤◌}
use mathlib.Core.Path.{◌≡◌, refl, ap, ◌∙◌}
use mathlib.Core.Bool.{Bool, true, false, cond}
use mathlib.Core.List.{List, ◌++◌, append_assoc}
use native.Mathlib.Omega.{arith}
use lib.ListN.{length, drop, length-append}
use lib.Seq.{paste}
use lib.Dec.{ltb}
use borrow.Author.Tests.{ltb-false}
use Rattle.isa.specs.Machine.{control_words}
use Rattle.isa.specs.Images.{beside_memory, contents_size, contents_words, image_of, image_size}
use Rattle.isa.specs.Answers.{Answer, state_answer, output_answer, write_answer}
use Rattle.isa.specs.declared.machine.State.{State}
use Rattle.isa.specs.declared.answer.Refusal.TheVariants.{Output}
use Rattle.std.specs.declared.result.Result.TheVariants.{Ok, Err}
use Rattle.checks.proofs.Passed.{sizes_of, memory_most, tables_all}
use Rattle.image_write.proofs.Joined.{joined}

-- where the page tables and the devices stand among an image's words beside memory
abbrev pub table_place : ℕ
table_place = contents_size + first_device

abbrev device_place : ℕ
device_place = table_place + table_words

-- the image: registers and control words, page tables, devices' words, each behind what stands there
pub image_put : (s : State) (m t o d e f g : List ℕ) (n : ℕ) → length m ≡ n
    → length (s.regs ++ control_words s) ≡ first_device
    → length t ≡ table_words
    → d ≡ (contents_words (length m) ++ m) ++ drop (n + contents_size) o
    → e ≡ paste d (n + contents_size) (s.regs ++ control_words s) first_device
    → f ≡ paste e (n + table_place) t table_words
    → g ≡ paste f (n + device_place) (device_words s.devices) device_count
    → g ≡ image_of s m t ++ drop (n + beside_memory) o
unfolding image_of
image_put s m t o d e f g n hm hw ht hd he hf hg =
    let c : List ℕ = contents_words (length m) in
    let w : List ℕ = s.regs ++ control_words s in
    let v : List ℕ = device_words s.devices in
    let a : length (c ++ m) ≡ n + contents_size = length-append c m ∙ omega (arith, hm) in
    let b : length ((c ++ m) ++ w) ≡ n + table_place = length-append (c ++ m) w ∙ omega (arith, a, hw) in
    let k : length (((c ++ m) ++ w) ++ t) ≡ n + device_place =
    length-append ((c ++ m) ++ w) t ∙ omega (arith, b, ht) in
    let p : n + contents_size + first_device ≡ n + table_place = omega arith in
    let q : n + table_place + table_words ≡ n + device_place = omega arith in
    let r : n + device_place + device_count ≡ n + beside_memory = omega arith in
    let x : e ≡ ((c ++ m) ++ w) ++ drop (n + table_place) o =
    he ∙ joined (c ++ m) w o d (n + contents_size) first_device a hw hd
    ∙ ap (λ (z : ℕ). ((c ++ m) ++ w) ++ drop z o) p in
    let y : f ≡ (((c ++ m) ++ w) ++ t) ++ drop (n + device_place) o =
    hf
    ∙ joined ((c ++ m) ++ w) t o e (n + table_place) table_words b ht x
    ∙ ap (λ (z : ℕ). (((c ++ m) ++ w) ++ t) ++ drop z o) q in
    hg
    ∙ joined (((c ++ m) ++ w) ++ t) v o f (n + device_place) device_count k refl y
    ∙ ap (λ (z : ℕ). ((((c ++ m) ++ w) ++ t) ++ v) ++ drop z o) r
    ∙ ap (λ (z : List ℕ). z ++ drop (n + beside_memory) o)
    (append_assoc ((c ++ m) ++ w) t v ∙ append_assoc (c ++ m) w (t ++ v) ∙ append_assoc c m (w ++ (t ++ v))
    ∙ ap (λ (z : List ℕ). c ++ (m ++ z)) (append_assoc s.regs (control_words s) (t ++ v)))

-- ---- the answer

-- what an image needs
pub write_needs : (s : State) (m t out : List ℕ) → write_answer s m t out ≡ Ok tt
    → (length m ≤ largest_memory) × ((length t ≡ table_words) × (image_size m ≤ length out))
unfolding write_answer
write_needs s m t out e = go (state_answer s m t) refl e
  where
    go : (x : Answer) → state_answer s m t ≡ x → output_answer m out x ≡ Ok tt
        → (length m ≤ largest_memory) × ((length t ≡ table_words) × (image_size m ≤ length out))
    go (Ok _) q p =
        let z = sizes_of s m t q in
        (memory_most m t z, (tables_all m t z, fits (ltb (length out) (length m + beside_memory)) refl p))
      where
        fits : (b : Bool) → ltb (length out) (length m + beside_memory) ≡ b
            → ◌≡◌ {A = Answer} (cond b (Err Output) (Ok tt)) (Ok tt)
            → length m + beside_memory ≤ length out
        fits false l d = ltb-false (length out) (length m + beside_memory) l
        fits true l d = cc
    go (Err r) q p = cc
