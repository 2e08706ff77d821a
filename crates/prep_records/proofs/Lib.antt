mod Learning
mod Going
