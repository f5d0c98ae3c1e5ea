-- Letters: p a plan, b a buffer, x a guard's bytes, w the writer's answer.
pub mod Written
