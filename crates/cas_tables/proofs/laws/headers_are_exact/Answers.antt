use Rattle.cas_tables.proofs.HeaderLaws.{header_exact, header_of_exact}
use Rattle.cas_tables.proofs.laws.headers_are_exact.Goals as goal

pub returns : goal.returns
returns c = record { any = header_exact; of_file = header_of_exact }
