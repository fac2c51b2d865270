-- Faults of the crates below, as refusals.
use Rattle.lrp_model.specs.declared.faults.QueryRead.{QueryRead}
use Rattle.lrp_model.specs.declared.faults.QueryRead.TheVariants as query_read
use Rattle.lrp_token.specs.declared.resume.TokenFault.{TokenFault}
use Rattle.lrp_token.specs.declared.resume.TokenFault.TheVariants as token_fault
use Rattle.lrp_outputs.specs.declared.refusal.Refusal.{Refusal}
use Rattle.lrp_outputs.specs.declared.refusal.Refusal.TheVariants.{Query, TokenForm, TokenShape, Memory}

-- the refusal of a query that was not read, or not sorted
abbrev pub refused_by : QueryRead → Refusal
refused_by (query_read.Fault fault) = Query fault
refused_by query_read.Memory = Memory

-- the refusal of a token that was not read
abbrev pub token_refused : TokenFault → Refusal
token_refused token_fault.Form = TokenForm
token_refused token_fault.Shape = TokenShape
token_refused token_fault.Memory = Memory
