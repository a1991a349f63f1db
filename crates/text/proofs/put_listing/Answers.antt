-- `text::put_listing` meets its contract.
use Rattle.text.proofs.Texts.{joined}
use Rattle.text.proofs.put_listing.Goals as goal

pub returns : goal.returns
returns c = joined c.put_counts-end.ensures.wrote c.put_rows.ensures.wrote
