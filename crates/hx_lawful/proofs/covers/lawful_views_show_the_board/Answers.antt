use Rattle.hx_lawful.proofs.Showing.{lawful_shows}
use Rattle.hx_lawful.proofs.covers.lawful_views_show_the_board.Goals as goal

pub returns : goal.returns
returns c = lawful_shows
