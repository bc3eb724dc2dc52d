pub mod membership_lemmas
pub mod CallLemmas
pub mod VerdictLemmas
pub mod PlanFacts
