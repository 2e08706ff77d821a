pub mod GrowingSteps
pub mod PortionSteps
pub mod StaySteps
pub mod KeptSteps
pub mod FittingSteps
