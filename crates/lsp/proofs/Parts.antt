-- The parts of each step, over plain values. Assumes nothing.
use mathlib.Core.Path.{◌≡◌, ap, ap₂, ◌∙◌}
use mathlib.Core.Bool.{true}
use mathlib.Core.List.{List}
use Prim.Native.Nat.{ℕ, ◌≤◌, ◌<◌}
use lib.Dec.{eqb}
use lib.ListN.{replicate}
use borrow.Author.Tests.{le-leb, lt-leb}
use Rattle.payload.specs.Writing.{write_of}
use Rattle.window.specs.View.{standing, turned_of}
use Rattle.window.specs.Outcomes.{Turned}
use Rattle.lsp.specs.Steps.{with_server, server_of, faded_of, out_of, is_cv, after_close, closed_of, close_of, write_row_of}
use Rattle.lsp.specs.declared.path.Fdi.{Fdi}
use Rattle.lsp.specs.declared.path.Lsp.{Lsp}
use Rattle.lsp.specs.declared.close.Out.{Out}
use Rattle.lsp.specs.Outcomes.{Closed}

-- ---- the server signal

module _ (l : Lsp) (v : ℕ) where
  pub signal : v ≤ 1 → record { number = 0; next = with_server l (eqb v 1) } ≡ server_of l v
  signal h = rw (le-leb v 1 h)

-- ---- what goes out

module _ (l : Lsp) where
  -- ---- FDI and BDI

  module _ (ty : ℕ) (b : List ℕ) where
    pub written : (o : Out) (n : ℕ) (b' : List ℕ) → standing l.state.defect ≡ true → o ≡ out_of l
        → (n, b') ≡ write_of ty (replicate 20 0) 0 o.dt o.dl b → (n, b') ≡ write_row_of ty l b
    written o n b' h e w = w ∙ ap (λ (x : Out). write_of ty (replicate 20 0) 0 x.dt x.dl b) e ∙ rw h

  -- ---- the close, from what the window's close answers

  abbrev made : Turned → Fdi → Out → Closed
  made t f o = record {
    number = 0;
    defect = t.state.defect;
    out = o;
    handed = t.handed;
    next = record { kind = l.kind; ttsi = l.ttsi; dl = l.dl; state = t.state; server = l.server; fdi = f };
  }

  pub closes : (t : Turned) (f : Fdi) (o : Out) → t ≡ turned_of (is_cv l) l.state → t.number ≡ 0 → f ≡ faded_of l.fdi
      → o ≡ out_of (made t f o).next → made t f o ≡ close_of l
  unfolding close_of
  closes t f o e h ef eo = by ∙ ap (closed_of l) e
    where
      o' : o ≡ out_of (after_close l t.state)
      o' = eo ∙ ap (λ (g : Fdi). out_of (made t g o).next) ef

      by : made t f o ≡ closed_of l t
      by = ap₂ (made t) ef o' ∙ rw h
