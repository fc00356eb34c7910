-- How the view that was planned last is kept.
use Rattle.std.specs.Prelude.{◌≡◌, Bool, true}
use Rattle.hx_cluster.specs.declared.planning.View.{View}
use Rattle.hx_pass.specs.Local.{IsAlike}

-- the lists have the sessions and what is wanted of a view, and its messages and rows too where these are held
pub record IsKept (view lists : View) (held : Bool) : Type 0 where
  pub alike : IsAlike lists view
  pub same : held ≡ true → lists ≡ view
