use Rattle.sqlx_query.proofs.DraftLemmas.{text_back, text_longer}
use Rattle.sqlx_query.proofs.builder.QueryBuilder.push_framed.Goals as goal

pub cut_back-requires-clause-initial : goal.cut_back-requires-clause-initial
cut_back-requires-clause-initial g c =
    rw (c.mark-mark.ensures.text, c.in-Err.ensures.appends.initial) c.mark-mark.ensures.initial

pub cut_back-requires-clause-within : goal.cut_back-requires-clause-within
cut_back-requires-clause-within g c =
    rw c.mark-mark.ensures.text (text_longer g.DB.ArgumentBuffer.ArgumentList.count g.DB.ArgumentBuffer.ArgumentList.first _ _ c.in-Err.ensures.appends)

pub cut_back-requires-clause-valid : goal.cut_back-requires-clause-valid
cut_back-requires-clause-valid g c =
    rw (c.mark-mark.ensures.text, text_back g.DB.ArgumentBuffer.ArgumentList.count g.DB.ArgumentBuffer.ArgumentList.first _ _ c.in-Err.ensures.appends) c.mark-mark.ensures.valid
