mod TextLemmas
mod RunsLemmas
