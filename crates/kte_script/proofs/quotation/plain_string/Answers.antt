use Rattle.kte_script.proofs.StringLemmas.{plain_closes}
use Rattle.kte_script.proofs.quotation.plain_string.Goals as goal

pub returns-clause-value : goal.returns-clause-value
returns-clause-value c =
    plain_closes c.args.bytes.now c.split_at.result.0.now c.split_at.result.1.now _ c.plain_len.result c.plain_len.ensures.count
    c.split_at.ensures.front c.split_at.ensures.back c.in_ok-after.ensures
