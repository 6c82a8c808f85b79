-- The entries of an image, one by one.
use Rattle.std.specs.Prelude.{◌≡◌, ℕ, ◌+◌, ◌-◌, ◌*◌, false, List, drop, MatchResult}
use Rattle.std.specs.declared.result.Result.{Result}
use Rattle.isa.specs.Images.{ImageEntry, image_entry_of, entries_of, known_kind}
use Rattle.isa.specs.Images.{kind_memory, kind_registers, kind_control, kind_tables, kind_devices}
use Rattle.isa.specs.declared.answer.Refusal.{Refusal}
use Rattle.isa.specs.declared.answer.Refusal.TheVariants.{Kind as UnknownKind}
use Rattle.image_directory.specs.declared.entry.Kind.{Kind}
use Rattle.image_directory.specs.declared.entry.Kind.TheVariants.{Memory, Registers, Control, Tables, Devices}
use Rattle.image_directory.specs.declared.entry.Span.{Span}

-- "kind (1 memory, 2 registers at 8 × level + number, 3 control words, 4 page tables)"; "kind 5, the devices' words"
abbrev pub kind_number : Kind → ℕ
kind_number Memory = kind_memory
kind_number Registers = kind_registers
kind_number Control = kind_control
kind_number Tables = kind_tables
kind_number Devices = kind_devices

-- "5, unknown kind": the kind of a number, or that refusal
abbrev pub KindOf : ℕ → Result Kind Refusal → Type 0
KindOf n r = MatchResult r (λ k. kind_number k ≡ n) (λ e. (e ≡ UnknownKind) × (known_kind n ≡ false))

abbrev pub span_entry : Span → ImageEntry
span_entry e = record { kind = e.kind; start = e.start; count = e.count }

-- entry k of an image, and the entries from entry k on, of n
unfoldable pub image_entry_at : ℕ → List ℕ → ImageEntry
image_entry_at k i = image_entry_of (drop (1 + k * 5) i)

unfoldable pub rest_of : ℕ → ℕ → List ℕ → List ImageEntry
rest_of k n i = entries_of (n - k) (drop (1 + k * 5) i)
