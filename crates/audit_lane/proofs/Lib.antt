pub mod Alone
pub mod Growing
pub mod Inputs
pub mod Lists
pub mod Founds
pub mod InOrder
pub mod Walking
pub mod OneWay
