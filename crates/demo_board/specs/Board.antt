-- Document 01, "The demonstration board".
use Rattle.std.specs.Prelude.{ℕ, Bool, true, false, List, [], ◌∷◌, ◌++◌, replicate}
use Rattle.buffer.specs.LittleEndian.{least_first}
use Rattle.space_table.specs.declared.Space.{Space}
use Rattle.exec_registers.specs.Registers.{registers_at_start}
use Rattle.exec_spec.specs.Handling.{Fixed, fixed, Contents, contents}

abbrev pub space : ℕ → ℕ → ℕ → Bool → Bool → ℕ → Space
space n low high readOnly inFlash offset =
    record { number = n; read_only = readOnly; in_flash = inFlash; lowest = low; highest = high; offset = offset }

-- "Alias 22B, Write Lengths F2"
abbrev pub demo_alias : ℕ
demo_alias = 0x22B

abbrev pub demo_write_lengths : ℕ
demo_write_lengths = 0xF2

-- "Spaces: 0xFD 0–1F writable, memory 0; 0xFE 0–2F writable, memory 0; 0xFF 0–F read-only, flash 0; 0x10 100–10F
-- writable, memory 32 (hex except offsets)."
abbrev pub demo_spaces : List Space
demo_spaces =
    space 0xFD 0 0x1F false false 0
    ∷ space 0xFE 0 0x2F false false 0
    ∷ space 0xFF 0 0xF true true 0
    ∷ space 0x10 0x100 0x10F false false 32
    ∷ []

-- A row of the board's table, for an offset under 256.
abbrev pub row_of : ℕ → ℕ → ℕ → ℕ → ℕ → ℕ → List ℕ
row_of n readOnly inFlash low high offset =
    n ∷ readOnly ∷ inFlash ∷ 0 ∷ least_first low ++ least_first high ++ (offset ∷ 0 ∷ 0 ∷ 0 ∷ [])

-- "memory 48 zero bytes"
abbrev pub demo_memory : List ℕ
demo_memory = replicate 48 0

-- "flash 16 bytes: `<cdi/>` and ten zeros"
abbrev pub demo_flash : List ℕ
demo_flash = 0x3C ∷ 0x63 ∷ 0x64 ∷ 0x69 ∷ 0x2F ∷ 0x3E ∷ replicate 10 0

abbrev pub demo_fixed : Fixed
demo_fixed = fixed demo_alias demo_write_lengths demo_spaces demo_flash

-- "The lock memory is six bytes, zero at start."
abbrev pub demo_contents : Contents
demo_contents = contents demo_memory registers_at_start
