-- One path of an image in a buffer. Assumes nothing.
use Rattle.std.specs.Prelude.{List, ℕ}
use Rattle.lsp.specs.declared.path.Lsp.{Lsp}
use Rattle.table.specs.Steps.{path_at, put}
use Rattle.host.specs.Calls.{table_in, saved_in}

unfoldable pub path_in : List ℕ → ℕ → Lsp
path_in s i = path_at (table_in s) i

-- the buffer with another path in the place of one
unfoldable pub with_path : List ℕ → ℕ → Lsp → List ℕ
with_path s i l = saved_in (put (table_in s) i l) s
