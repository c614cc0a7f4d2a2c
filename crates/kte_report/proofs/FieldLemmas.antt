-- Fields that are read are within the limits.
use Rattle.std.proofs.Common.{◌≡◌, ℕ, List, Ok}
use Rattle.kte_script.specs.declared.limits.Limits.{Limits}
use Rattle.kte_script.specs.Fields.{Kind}
use Rattle.kte_script.specs.Table.{Values}
use Rattle.kte_script.specs.Reading.{read_fields}
use Rattle.kte_script.specs.Limits.{AllFit}
use Rattle.kte_script.proofs.FieldInWordsLemmas.{fields_reads}
use Rattle.kte_script.proofs.WithinLemmas as within

pub fields_fit : (limits : Limits) (kinds : List Kind) (bytes rest : List ℕ) (values : Values kinds) → read_fields limits kinds bytes ≡ Ok (values, rest) → AllFit limits kinds values
fields_fit limits kinds bytes rest values e = within.fields_fit limits kinds values bytes rest ((fields_reads limits kinds).takes bytes values rest e)
