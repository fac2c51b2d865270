-- Lemmas of the tests.

mod EndLemmas
mod EvenLemmas
mod IntegerLemmas
mod LimitLemmas
mod ResidueLemmas
mod SoonLemmas
mod TimeLemmas
