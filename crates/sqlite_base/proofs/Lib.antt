mod QueryLemmas
mod RefusalLemmas
