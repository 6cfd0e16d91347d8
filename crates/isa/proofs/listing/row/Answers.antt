use Rattle.isa.proofs.FormatLaws.{format_read, fixed_read}
use Rattle.isa.proofs.listing.row.Goals as goal

pub returns-clause-format : goal.returns-clause-format
returns-clause-format c = format_read c.args.operation _ _ _ c.get.ensures.lookup c.copied.ensures c.unwrap_or.ensures

pub returns-clause-fixed : goal.returns-clause-fixed
returns-clause-fixed c = fixed_read c.args.operation _ _ _ c.get.ensures.lookup c.copied.ensures c.unwrap_or.ensures
