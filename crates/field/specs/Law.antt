-- The law of a field. `proofs/Law.antt` proves it.
-- Assumes nothing.
use Rattle.std.specs.Prelude.{◌≡◌, true, ◌↔◌, List, ℕ, ◌<◌, length}
use Rattle.payload.specs.Law.{Octets}
use Rattle.lsp.specs.Sound.{Sound}
use Rattle.lsp.specs.declared.path.Lsp.{Lsp}
use Rattle.field.specs.Field.{field_of, path_of, is_field}

-- the numbers of a path that no rule of the image bounds, as the code's types hold them
pub record Typed (l : Lsp) : Type 0 where
  pub ttsi : Octets l.ttsi
  pub dl : l.dl < 0x1_0000_0000
  pub fdi_dl : l.fdi.dl < 0x1_0000_0000

pub record FieldLaw : Type 0 where
  -- octets are a field and read as l exactly when l obeys its rules and they are its octets
  pub law : (s : List ℕ) (l : Lsp) → Octets s → ((is_field s ≡ true) × (path_of s ≡ l)) ↔ (Sound l × Typed l × (s ≡ field_of l))
  pub size : (l : Lsp) → Sound l → length (field_of l) ≡ 79
